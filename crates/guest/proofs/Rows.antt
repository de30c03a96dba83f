-- Rows that are alike at some places, and rows with one element changed.
use Rattle.std.proofs.Common.{◌≡◌, ℕ, zero, suc, true, ◌≢◌, List, [], ◌∷◌, ◌++◌, length, set, Some, None, Option, refl, ap, inl, inr}
use Rattle.std.specs.List.{slice_get}
use Rattle.guest.specs.Reads.{Among}
use Rattle.guest.specs.Meaning.{Meaning, Fit}

pub among_left : {A : Type 0} (x : A) (xs ys : List A) → Among x xs → Among x (xs ++ ys)
among_left x [] ys h = absurd h
among_left x (y ∷ xs) ys (inl e) = inl e
among_left x (y ∷ xs) ys (inr h) = inr (among_left x xs ys h)

pub among_right : {A : Type 0} (x : A) (xs ys : List A) → Among x ys → Among x (xs ++ ys)
among_right x [] ys h = h
among_right x (y ∷ xs) ys h = inr (among_right x xs ys h)

pub set_other : {A : Type 0} (r : List A) (x y : ℕ) (v : A) → y ≢ x → slice_get (set r x v) y ≡ slice_get r y
set_other [] x y v h = refl
set_other (a ∷ r) zero zero v h = absurd (h refl)
set_other (a ∷ r) zero (suc y) v h = refl
set_other (a ∷ r) (suc x) zero v h = refl
set_other (a ∷ r) (suc x) (suc y) v h = set_other r x y v (λ e. h (ap suc e))

-- the same put at one place keeps two rows alike
pub set_alike : {A : Type 0} (r s : List A) (x y : ℕ) (v : A) → slice_get r y ≡ slice_get s y → slice_get (set r x v) y ≡ slice_get (set s x v) y
set_alike [] [] x y v h = refl
set_alike [] (b ∷ s) zero zero v h = cc
set_alike [] (b ∷ s) zero (suc y) v h = h
set_alike [] (b ∷ s) (suc x) zero v h = h
set_alike [] (b ∷ s) (suc x) (suc y) v h = set_alike [] s x y v h
set_alike (a ∷ r) [] zero zero v h = cc
set_alike (a ∷ r) [] zero (suc y) v h = h
set_alike (a ∷ r) [] (suc x) zero v h = h
set_alike (a ∷ r) [] (suc x) (suc y) v h = set_alike r [] x y v h
set_alike (a ∷ r) (b ∷ s) zero zero v h = refl
set_alike (a ∷ r) (b ∷ s) zero (suc y) v h = h
set_alike (a ∷ r) (b ∷ s) (suc x) zero v h = h
set_alike (a ∷ r) (b ∷ s) (suc x) (suc y) v h = set_alike r s x y v h

module _ {Ty Va : Type 0} (m : Meaning Ty Va) where
  pub fit_length : (types : List Ty) (row : List Va) → Fit m types row → length types ≡ length row
  fit_length [] [] f = refl
  fit_length [] (v ∷ row) f = absurd f
  fit_length (t ∷ types) [] f = absurd f
  fit_length (t ∷ types) (v ∷ row) f = ap suc (fit_length types row f.1)

  -- a place has a type and a value that it holds, or neither
  abbrev pub Held : Option Ty → Option Va → Type 0
  Held None None = Unit {0}
  Held None (Some v) = ⊥
  Held (Some t) None = ⊥
  Held (Some t) (Some v) = m.holds t v ≡ true

  pub fit_held : (types : List Ty) (row : List Va) (i : ℕ) → Fit m types row → Held (slice_get types i) (slice_get row i)
  fit_held [] [] i f = tt
  fit_held [] (v ∷ row) i f = absurd f
  fit_held (t ∷ types) [] i f = absurd f
  fit_held (t ∷ types) (v ∷ row) zero f = f.0
  fit_held (t ∷ types) (v ∷ row) (suc i) f = fit_held types row i f.1

  -- a row of values fits a type more that holds the value at its place
  pub fit_set : (types : List Ty) (row : List Va) (i : ℕ) (t : Ty) (v : Va) → Fit m types row → slice_get row i ≡ Some v → m.holds t v ≡ true → Fit m (set types i t) row
  fit_set [] [] i t v f e h = f
  fit_set [] (w ∷ row) i t v f e h = f
  fit_set (u ∷ types) [] i t v f e h = absurd f
  fit_set (u ∷ types) (w ∷ row) zero t v f e h = (let d : w ≡ v = cc in rw d h, f.1)
  fit_set (u ∷ types) (w ∷ row) (suc i) t v f e h = (f.0, fit_set types row i t v f.1 e h)
