-- The laws that every guest keeps, and that the bench builds on.
use Rattle.std.specs.Prelude.{◌≡◌, ℕ, Bool, true, List, ℤ, Some, Ok, ◌≢◌}
use Rattle.std.specs.List.{slice_get}
use Rattle.tables.specs.declared.Node.{Node}
use Rattle.guest.specs.Reads.{Among, Alike, reads}
use Rattle.guest.specs.Meaning.{Meaning, Fit, Cut, narrowed, no_guard, never}

-- Two answers of the narrowing call are the same at these places.
abbrev pub SameCut : {Ty : Type 0} → List ℕ → Cut Ty → Cut Ty → Type 0
SameCut places (narrowed r) (narrowed s) = Alike places r s
SameCut places (narrowed r) no_guard = ⊥
SameCut places (narrowed r) never = ⊥
SameCut places no_guard (narrowed s) = ⊥
SameCut places no_guard no_guard = Unit {0}
SameCut places no_guard never = ⊥
SameCut places never (narrowed s) = ⊥
SameCut places never no_guard = ⊥
SameCut places never never = Unit {0}

pub record Laws {Ty Va : Type 0} (m : Meaning Ty Va) : Type 0 where
  pub rest_is_held : (t : Ty) → m.holds t (m.rest t) ≡ true
  pub read_code_is_held : (t : Ty) (code : ℤ) (v : Va) → m.decode t code ≡ Some v → m.holds t v ≡ true
  pub held_code_reads_back : (a b : ℤ) (t : Ty) (v : Va) → m.make a b ≡ Some t → m.holds t v ≡ true → m.decode t (m.encode v) ≡ Some v
  pub wider_type_holds_it : (t u : Ty) (v : Va) → m.within t u ≡ true → m.holds t v ≡ true → m.holds u v ≡ true
  pub typed_right_side_gives_its_type : (e : List Node) (types : List Ty) (row : List Va) (t : Ty) → Fit m types row → m.typed e types ≡ Some t
      → (v : Va) × (m.value e row ≡ Ok v) × (m.holds t v ≡ true)
  pub guard_gives_yes_or_no : (e : List Node) (types after : List Ty) (row : List Va) → Fit m types row → m.narrow e types ≡ narrowed after
      → (b : Bool) × (m.verdict e row ≡ Ok b)
  pub yes_fits_narrowed_types : (e : List Node) (types after : List Ty) (row : List Va) → Fit m types row → m.narrow e types ≡ narrowed after
      → m.verdict e row ≡ Ok true → Fit m after row
  pub never_is_not_yes : (e : List Node) (types : List Ty) (row : List Va) → Fit m types row → m.narrow e types ≡ never
      → m.verdict e row ≢ Ok true
  -- rows that are alike at every value that an expression reads give equal answers
  pub same_reads_same_type : (e : List Node) (r s : List Ty) → Alike (reads e) r s → m.typed e r ≡ m.typed e s
  pub same_reads_same_value : (e : List Node) (r s : List Va) → Alike (reads e) r s → m.value e r ≡ m.value e s
  pub same_reads_same_verdict : (e : List Node) (r s : List Va) → Alike (reads e) r s → m.verdict e r ≡ m.verdict e s
  pub same_reads_same_narrowing : (e : List Node) (r s : List Ty) → Alike (reads e) r s → SameCut (reads e) (m.narrow e r) (m.narrow e s)
  -- and a guard narrows nothing else
  pub unread_types_stay : (e : List Node) (types after : List Ty) → m.narrow e types ≡ narrowed after
      → (x : ℕ) → (Among x (reads e) → ⊥) → slice_get after x ≡ slice_get types x
