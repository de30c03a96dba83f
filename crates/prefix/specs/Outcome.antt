-- How the outcomes of parts are put together, in a pass by values and in one by types. All parts are evaluated, left to
-- right, so the reason is that of the first part that has one.
use Rattle.std.specs.Prelude.{Bool, if◌then◌else◌, ◌&&◌, ◌||◌, is_some, Some, None, Ok, Err, Option, Result}
use Rattle.std.proofs.Math.Bool as Bools
use Rattle.guest.specs.declared.answers.Reason.{Reason}
use Rattle.guest.specs.declared.answers.Reason.TheVariants.{BadShape}
use Rattle.prefix.specs.declared.grammar.Link.{Link}
use Rattle.prefix.specs.declared.grammar.Link.TheVariants.{And, Or}

-- by values: what a part gave goes on to f, unless it gave a reason
abbrev pub then_by : {A C : Type 0} → Result A Reason → (A → Result C Reason) → Result C Reason
then_by (Ok a) f = f a
then_by (Err e) f = Err e

abbrev pub read_value : {A : Type 0} → Option A → Result A Reason
read_value None = Err BadShape
read_value (Some v) = Ok v

abbrev pub choice_value : {A : Type 0} → Result Bool Reason → Result A Reason → Result A Reason → Result A Reason
choice_value t a b = then_by t (λ c. then_by a (λ x. then_by b (λ y. Ok (if c then x else y))))

abbrev pub comparison_value : {A : Type 0} → (A → A → Bool) → Result A Reason → Result A Reason → Result Bool Reason
comparison_value test a b = then_by a (λ x. then_by b (λ y. Ok (test x y)))

abbrev pub not_value : Result Bool Reason → Result Bool Reason
not_value a = then_by a (λ x. Ok (Bools.not x))

abbrev pub linked : Link → Bool → Bool → Bool
linked And a b = a && b
linked Or a b = a || b

abbrev pub join_value : Link → Result Bool Reason → Result Bool Reason → Result Bool Reason
join_value l a b = then_by a (λ x. then_by b (λ y. Ok (linked l x y)))

-- by types: what is made of two types, if there are both
abbrev pub with_both : {A : Type 0} → Option A → Option A → (A → A → Option A) → Option A
with_both None q f = None
with_both (Some r) None f = None
with_both (Some r) (Some s) f = f r s

-- a choice has what is made of its branches' types, if all parts of its condition have a type
abbrev pub choice_type : {A : Type 0} → (A → A → Option A) → Bool → Option A → Option A → Option A
choice_type hull t a b = if t then with_both a b hull else None

abbrev pub both_typed : {A : Type 0} → Option A → Option A → Bool
both_typed a b = is_some a && is_some b
