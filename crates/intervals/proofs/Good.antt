-- What a range holds, and what `range` gives.
use Rattle.std.proofs.Common.{◌≡◌, Bool, true, false, ℤ, ◌≤ℤ◌, Some, None, Ok, Option, refl, ap, ◌∙◌, arith}
use mathlib.Core.Bool.{Bool-set}
use Rattle.std.proofs.lemmas.Int.{ints}
use Rattle.prefix.proofs.Laws.{Good, Kept}
use Rattle.intervals.specs.declared.range.Range.{Range}
use Rattle.intervals.specs.Word.{least, greatest, proper}
use Rattle.intervals.specs.Range.{range_if, range, held}
use Rattle.intervals.specs.Value.{word}
use Rattle.intervals.specs.Meaning.{ranges}

-- a number lies in a range
abbrev pub In : Range → ℤ → Type 0
In r z = (r.lo ≤ℤ z) × (z ≤ℤ r.hi)

pub held_in : (r : Range) (z : ℤ) → held r z ≡ true → In r z
held_in r z e = (grind (arith, ints), grind (arith, ints))

-- what a Range's own invariant says
pub range_ends : (r : Range) → (least ≤ℤ r.lo) × (r.lo ≤ℤ r.hi) × (r.hi ≤ℤ greatest)
range_ends r = (grind (arith, ints), grind (arith, ints), grind (arith, ints))

if_by : (P : Option Range → Type 0) (a b : ℤ) → ((p : proper a b ≡ true) → P (Some (record { lo = a; hi = b; ends = p }))) → (proper a b ≡ false → P None)
    → (ok : Bool) (p : proper a b ≡ ok) → P (range_if a b ok p)
if_by P a b s n true p = s p
if_by P a b s n false p = n p

-- what holds of the range of proper ends, and of no range where they are not proper, holds of what `range` gives
by_range : (P : Option Range → Type 0) (a b : ℤ) → ((p : proper a b ≡ true) → P (Some (record { lo = a; hi = b; ends = p }))) → (proper a b ≡ false → P None) → P (range a b)
unfolding range
by_range P a b s n = if_by P a b s n (proper a b) refl

-- a number between the ends is held, where there is a range
pub range_holds : (z a b : ℤ) → a ≤ℤ z → z ≤ℤ b → Good ranges (range a b) (Ok z)
range_holds z a b h k = by_range (λ o. Good ranges o (Ok z)) a b (λ p. grind (arith, ints)) (λ p. tt)

-- it is in the word range then, too
pub range_good : (z a b : ℤ) → a ≤ℤ z → z ≤ℤ b → Good ranges (range a b) (word z)
range_good z a b h k = by_range (λ o. Good ranges o (word z)) a b (λ p. grind (arith, ints)) (λ p. tt)

pub range_keeps : (z a b : ℤ) → least ≤ℤ a → b ≤ℤ greatest → a ≤ℤ z → z ≤ℤ b → Kept ranges (range a b) z
range_keeps z a b l u h k = by_range (λ o. Kept ranges o z) a b (λ p. grind (arith, ints)) (λ p. absurd (grind (arith, ints)))

-- a Range with these ends is the one that `range` gives
pub range_is : (a b : ℤ) (r : Range) → r.lo ≡ a → r.hi ≡ b → Some r ≡ range a b
range_is a b r d e =
    by_range (λ o. Some r ≡ o) r.lo r.hi (λ p. ap (λ t. Some (record { lo = r.lo; hi = r.hi; ends = t })) (Bool-set (proper r.lo r.hi) true r.ends p)) (λ p. absurd (cc))
    ∙ ap (λ x. range x r.hi) d ∙ ap (range a) e

pub range_not : (a b : ℤ) → proper a b ≡ false → None ≡ range a b
range_not a b e = by_range (λ o. None ≡ o) a b (λ p. absurd (cc)) (λ p. refl)
