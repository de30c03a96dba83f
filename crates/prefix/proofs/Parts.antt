-- What has a type gives a value of it, for the kinds of node that all guests have.
use Rattle.std.proofs.Common.{◌≡◌, Bool, true, false, cond, ◌&&◌, Some, None, Ok, Err, Option, Result}
use Rattle.guest.specs.declared.answers.Reason.{Reason}
use Rattle.guest.specs.Meaning.{Meaning}
use Rattle.guest.proofs.Rows.{Held}
use Rattle.prefix.specs.declared.grammar.Link.{Link}
use Rattle.prefix.specs.Outcome.{read_value, choice_value, comparison_value, not_value, join_value, with_both, choice_type, both_typed}
use Rattle.prefix.proofs.Laws.{Good, Told}

module _ {Ty Va : Type 0} (m : Meaning Ty Va) where
  pub leaf_good : (t : Option Ty) (v : Option Va) → Held m t v → Good m t (read_value v)
  leaf_good None v h = tt
  leaf_good (Some t) None h = absurd h
  leaf_good (Some t) (Some v) h = h

  -- two parts with types: what is made of the types holds what is made of the values
  pub pair_good : (f : Ty → Ty → Option Ty) (g : Result Va Reason → Result Va Reason → Result Va Reason)
      → ((r s : Ty) (x y : Va) → m.holds r x ≡ true → m.holds s y ≡ true → Good m (f r s) (g (Ok x) (Ok y)))
      → (p q : Option Ty) (a b : Result Va Reason) → Good m p a → Good m q b → Good m (with_both p q f) (g a b)
  pair_good f g k None q a b h i = tt
  pair_good f g k (Some r) None a b h i = tt
  pair_good f g k (Some r) (Some s) (Err e) b h i = absurd h
  pair_good f g k (Some r) (Some s) (Ok x) (Err e) h i = absurd i
  pair_good f g k (Some r) (Some s) (Ok x) (Ok y) h i = k r s x y h i

  pub choice_good : (hull : Ty → Ty → Option Ty) → ((r s : Ty) (x y : Va) (c : Bool) → m.holds r x ≡ true → m.holds s y ≡ true → Good m (hull r s) (Ok (cond c x y)))
      → (w : Bool) (p q : Option Ty) (t : Result Bool Reason) (a b : Result Va Reason) → Told w t → Good m p a → Good m q b → Good m (choice_type hull w p q) (choice_value t a b)
  choice_good hull k false p q t a b g h i = tt
  choice_good hull k true p q (Err e) a b g h i = absurd g
  choice_good hull k true p q (Ok c) a b g h i = pair_good hull (choice_value (Ok c)) (λ r s x y. k r s x y c) p q a b h i

  pub comparison_told : (test : Va → Va → Bool) (p q : Option Ty) (a b : Result Va Reason) → Good m p a → Good m q b → Told (both_typed p q) (comparison_value test a b)
  comparison_told test None q a b h k = tt
  comparison_told test (Some r) None a b h k = tt
  comparison_told test (Some r) (Some s) (Err e) b h k = absurd h
  comparison_told test (Some r) (Some s) (Ok x) (Err e) h k = absurd k
  comparison_told test (Some r) (Some s) (Ok x) (Ok y) h k = tt

pub not_told : (w : Bool) (a : Result Bool Reason) → Told w a → Told w (not_value a)
not_told false a h = tt
not_told true (Err e) h = absurd h
not_told true (Ok x) h = tt

pub join_told : (l : Link) (v w : Bool) (a b : Result Bool Reason) → Told v a → Told w b → Told (v && w) (join_value l a b)
join_told l false w a b h k = tt
join_told l true false a b h k = tt
join_told l true true (Err e) b h k = absurd h
join_told l true true (Ok x) (Err e) h k = absurd k
join_told l true true (Ok x) (Ok y) h k = tt
