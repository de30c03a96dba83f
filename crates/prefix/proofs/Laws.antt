-- What a guest owes for each kind of node, and that it then keeps the laws on expressions.
use Rattle.std.proofs.Common.{◌≡◌, ℕ, Bool, true, false, ◌≢◌, List, set, ℤ, Some, None, Ok, Err, Option, Result, sym, refl, ap, ◌∙◌, subst}
use Rattle.std.specs.List.{slice_get}
use Rattle.tables.specs.declared.Node.{Node}
use Rattle.guest.specs.declared.answers.Reason.{Reason}
use Rattle.guest.specs.Reads.{Among, Alike, read_by, reads}
use Rattle.guest.specs.Meaning.{Meaning, Fit, narrowed, never}
use Rattle.guest.specs.Laws.{SameCut}
use Rattle.guest.proofs.Rows.{set_other, set_alike, fit_length, Held, fit_held, fit_set}
use Rattle.prefix.specs.declared.grammar.Order.{Order}
use Rattle.prefix.specs.declared.grammar.Head.TheVariants.{Read}
use Rattle.prefix.specs.declared.comparison.Comparison.{Comparison}
use Rattle.prefix.specs.Pass.{number_pass, truth_pass}
use Rattle.prefix.specs.Simple.{simple}
use Rattle.prefix.specs.Language.{Language, shaped, flattened, put_back, cut_place, cut_by, cut, right_type, right_value, guard_verdict, guard_cut}
use Rattle.prefix.proofs.Related.{Related, Both, numbers_related, truths_related}
use Rattle.prefix.proofs.Alike.{same_reads_same_number, same_reads_same_truth}
use Rattle.prefix.proofs.ThreeNodes.{simple_gives, simple_reads}

-- an outcome is a value of the type, where there is a type
abbrev pub Good : {Ty Va : Type 0} → Meaning Ty Va → Option Ty → Result Va Reason → Type 0
Good m None o = Unit {0}
Good m (Some t) (Ok v) = m.holds t v ≡ true
Good m (Some t) (Err e) = ⊥

-- a truth comes out, where all its parts have a type
abbrev pub Told : Bool → Result Bool Reason → Type 0
Told false o = Unit {0}
Told true (Ok b) = Unit {0}
Told true (Err e) = ⊥

-- there is a type left, and it holds the value
abbrev pub Kept : {Ty Va : Type 0} → Meaning Ty Va → Option Ty → Va → Type 0
Kept m None v = ⊥
Kept m (Some t) v = m.holds t v ≡ true

-- what a guest shows of its nodes
pub record Sound {U B Ty Va : Type 0} (m : Meaning Ty Va) (L : Language U B Ty Va) : Type 0 where
  -- only nodes of code 0 read, and they read the place that the argument names
  pub reads_by_code : (n : Node) (i : ℕ) → L.grammar n ≡ Some (Read i) → Among i (read_by n)
  pub leaf : (t : Option Ty) (v : Option Va) → Held m t v → Good m (L.by_type.leaf t) (L.by_value.leaf v)
  pub nodes : Related L.by_type L.by_value (Good m) Told
  -- a value of a type that satisfies a comparison is in what the comparison leaves of the type
  pub trim_keeps : (o : Order) (z : ℤ) (t : Ty) (v : Va) → m.holds t v ≡ true
      → L.by_value.compare o (L.by_value.leaf (Some v)) (L.by_value.constant z) ≡ Ok true → Kept m (L.trimmed o z t) v

module _ {U B Ty Va : Type 0} (m : Meaning Ty Va) (L : Language U B Ty Va) (S : Sound m L) where
  typed_by : (o : Option (Option Ty)) (v : Option (Result Va Reason)) (t : Ty) → Both (Good m) o v → flattened o ≡ Some t → (x : Va) × (shaped v ≡ Ok x) × (m.holds t x ≡ true)
  typed_by None v t g e = cc
  typed_by (Some None) v t g e = cc
  typed_by (Some (Some u)) None t g e = absurd g
  typed_by (Some (Some u)) (Some (Err r)) t g e = absurd g
  typed_by (Some (Some u)) (Some (Ok x)) t g e = let d : u ≡ t = cc in (x, refl, rw d at g)

  module _ (types : List Ty) (row : List Va) (fit : Fit m types row) (ns : List Node) where
    leaves : (i : ℕ) → Good m (L.by_type.leaf (slice_get types i)) (L.by_value.leaf (slice_get row i))
    leaves i = S.leaf (slice_get types i) (slice_get row i) (fit_held m types row i fit)

    pub typed_gives : (t : Ty) → right_type L ns types ≡ Some t → (x : Va) × (right_value L ns row ≡ Ok x) × (m.holds t x ≡ true)
    typed_gives t e =
        typed_by (number_pass L.grammar L.by_type ns types) (number_pass L.grammar L.by_value ns row) t
        (numbers_related L.by_type L.by_value (Good m) Told S.nodes types row leaves L.grammar (fit_length m types row fit) ns) e

    both_truths : Both Told (truth_pass L.grammar L.by_type ns types) (truth_pass L.grammar L.by_value ns row)
    both_truths = truths_related L.by_type L.by_value (Good m) Told S.nodes types row leaves L.grammar (fit_length m types row fit) ns

    decided : (p : Option Bool) (v : Option (Result Bool Reason)) (c : Option Comparison) (after : List Ty) → Both Told p v → cut L.trimmed types p c ≡ narrowed after → (b : Bool) × (shaped v ≡ Ok b)
    decided None v c after g e = cc
    decided (Some false) v c after g e = cc
    decided (Some true) None c after g e = absurd g
    decided (Some true) (Some (Err r)) c after g e = absurd g
    decided (Some true) (Some (Ok b)) c after g e = (b, refl)

    pub guard_decides : (after : List Ty) → guard_cut L ns types ≡ narrowed after → (b : Bool) × (guard_verdict L ns row ≡ Ok b)
    guard_decides after e = decided (truth_pass L.grammar L.by_type ns types) (truth_pass L.grammar L.by_value ns row) (simple L.grammar ns) after both_truths e

    -- the value at a place that has a type
    value_at : (t : Ty) (v : Option Va) → Held m (Some t) v → (x : Va) × (v ≡ Some x) × (m.holds t x ≡ true)
    value_at t None h = absurd h
    value_at t (Some x) h = (x, refl, h)

    -- after the yes of a comparison, what it leaves of the type holds the value that it read
    module _ (yes : guard_verdict L ns row ≡ Ok true) (c : Comparison) (s : simple L.grammar ns ≡ Some c) (t : Ty) (here : slice_get types c.place ≡ Some t) where
      read_here : (x : Va) × (slice_get row c.place ≡ Some x) × (m.holds t x ≡ true)
      read_here = value_at t (slice_get row c.place) (subst (λ o. Held m o (slice_get row c.place)) here (fit_held m types row c.place fit))

      kept_here : Kept m (L.trimmed c.order c.constant t) read_here.0
      kept_here =
          S.trim_keeps c.order c.constant t read_here.0 read_here.2
          (sym (ap shaped (simple_gives L.grammar L.by_value row c read_here.0 read_here.1 ns s)) ∙ yes)

      yes_put : (u : Option Ty) → Kept m u read_here.0 → (after : List Ty) → put_back types c u ≡ narrowed after → Fit m after row
      yes_put None k after e = absurd k
      yes_put (Some u) k after e =
          let d : set types c.place u ≡ after = cc in subst (λ r. Fit m r row) d (fit_set m types row c.place u read_here.0 fit read_here.1 k)

      never_put : (u : Option Ty) → Kept m u read_here.0 → put_back types c u ≡ never → ⊥
      never_put None k e = k
      never_put (Some u) k e = cc

    module _ (yes : guard_verdict L ns row ≡ Ok true) where
      yes_place : (c : Comparison) → simple L.grammar ns ≡ Some c → (t : Option Ty) → slice_get types c.place ≡ t → (after : List Ty) → cut_place L.trimmed types c t ≡ narrowed after → Fit m after row
      yes_place c s None here after e = cc
      yes_place c s (Some t) here after e = yes_put yes c s t here (L.trimmed c.order c.constant t) (kept_here yes c s t here) after e

      yes_cut : (p : Option Bool) (c : Option Comparison) → simple L.grammar ns ≡ c → (after : List Ty) → cut L.trimmed types p c ≡ narrowed after → Fit m after row
      yes_cut None c s after e = cc
      yes_cut (Some false) c s after e = cc
      yes_cut (Some true) None s after e = let d : types ≡ after = cc in subst (λ r. Fit m r row) d fit
      yes_cut (Some true) (Some c) s after e = yes_place c s (slice_get types c.place) refl after e

      pub yes_fits : (after : List Ty) → guard_cut L ns types ≡ narrowed after → Fit m after row
      yes_fits after e = yes_cut (truth_pass L.grammar L.by_type ns types) (simple L.grammar ns) refl after e

      never_place : (c : Comparison) → simple L.grammar ns ≡ Some c → (t : Option Ty) → slice_get types c.place ≡ t → cut_place L.trimmed types c t ≡ never → ⊥
      never_place c s None here e = cc
      never_place c s (Some t) here e = never_put yes c s t here (L.trimmed c.order c.constant t) (kept_here yes c s t here) e

      never_cut : (p : Option Bool) (c : Option Comparison) → simple L.grammar ns ≡ c → cut L.trimmed types p c ≡ never → ⊥
      never_cut None c s e = cc
      never_cut (Some false) c s e = cc
      never_cut (Some true) None s e = cc
      never_cut (Some true) (Some c) s e = never_place c s (slice_get types c.place) refl e

      pub never_yes : guard_cut L ns types ≡ never → ⊥
      never_yes e = never_cut (truth_pass L.grammar L.by_type ns types) (simple L.grammar ns) refl e

  -- rows that are alike where an expression reads
  pub alike_type : (ns : List Node) (r s : List Ty) → Alike (reads ns) r s → right_type L ns r ≡ right_type L ns s
  alike_type ns r s k = ap flattened (same_reads_same_number L.by_type r s L.grammar S.reads_by_code ns k)

  pub alike_value : (ns : List Node) (r s : List Va) → Alike (reads ns) r s → right_value L ns r ≡ right_value L ns s
  alike_value ns r s k = ap shaped (same_reads_same_number L.by_value r s L.grammar S.reads_by_code ns k)

  pub alike_verdict : (ns : List Node) (r s : List Va) → Alike (reads ns) r s → guard_verdict L ns r ≡ guard_verdict L ns s
  alike_verdict ns r s k = ap shaped (same_reads_same_truth L.by_value r s L.grammar S.reads_by_code ns k)

  module _ (ns : List Node) (r s : List Ty) (k : Alike (reads ns) r s) where
    same_put : (c : Comparison) (u : Option Ty) → SameCut (reads ns) (put_back r c u) (put_back s c u)
    same_put c None = tt
    same_put c (Some u) = λ x h. set_alike r s c.place x u (k x h)

    same_place : (c : Comparison) (t : Option Ty) → SameCut (reads ns) (cut_place L.trimmed r c t) (cut_place L.trimmed s c t)
    same_place c None = tt
    same_place c (Some t) = same_put c (L.trimmed c.order c.constant t)

    same_cut_by : (c : Option Comparison) → simple L.grammar ns ≡ c → SameCut (reads ns) (cut_by L.trimmed r c) (cut_by L.trimmed s c)
    same_cut_by None e = k
    same_cut_by (Some c) e =
        subst (λ t. SameCut (reads ns) (cut_place L.trimmed r c (slice_get r c.place)) (cut_place L.trimmed s c t)) (k c.place (simple_reads L.grammar S.reads_by_code c ns e)) (same_place c (slice_get r c.place))

    same_cut : (p : Option Bool) (c : Option Comparison) → simple L.grammar ns ≡ c → SameCut (reads ns) (cut L.trimmed r p c) (cut L.trimmed s p c)
    same_cut None c e = tt
    same_cut (Some false) c e = tt
    same_cut (Some true) c e = same_cut_by c e

    pub alike_cut : SameCut (reads ns) (guard_cut L ns r) (guard_cut L ns s)
    alike_cut =
        subst (λ p. SameCut (reads ns) (guard_cut L ns r) (cut L.trimmed s p (simple L.grammar ns))) (same_reads_same_truth L.by_type r s L.grammar S.reads_by_code ns k)
        (same_cut (truth_pass L.grammar L.by_type ns r) (simple L.grammar ns) refl)

  -- a place that an expression does not read
  module _ (ns : List Node) (types after : List Ty) (x : ℕ) (unread : Among x (reads ns) → ⊥) where
    stay_put : (c : Comparison) → simple L.grammar ns ≡ Some c → (u : Option Ty) → put_back types c u ≡ narrowed after → slice_get after x ≡ slice_get types x
    stay_put c s None e = cc
    stay_put c s (Some u) e =
        let n : x ≢ c.place = λ d. unread (rw d (simple_reads L.grammar S.reads_by_code c ns s)) in
        let d : after ≡ set types c.place u = cc in ap (λ r. slice_get r x) d ∙ set_other types c.place x u n

    stay_place : (c : Comparison) → simple L.grammar ns ≡ Some c → (t : Option Ty) → cut_place L.trimmed types c t ≡ narrowed after → slice_get after x ≡ slice_get types x
    stay_place c s None e = cc
    stay_place c s (Some t) e = stay_put c s (L.trimmed c.order c.constant t) e

    stay_cut : (p : Option Bool) (c : Option Comparison) → simple L.grammar ns ≡ c → cut L.trimmed types p c ≡ narrowed after → slice_get after x ≡ slice_get types x
    stay_cut None c s e = cc
    stay_cut (Some false) c s e = cc
    stay_cut (Some true) None s e = let d : after ≡ types = cc in ap (λ r. slice_get r x) d
    stay_cut (Some true) (Some c) s e = stay_place c s (slice_get types c.place) e

    pub unread_stays : guard_cut L ns types ≡ narrowed after → slice_get after x ≡ slice_get types x
    unread_stays e = stay_cut (truth_pass L.grammar L.by_type ns types) (simple L.grammar ns) refl e
