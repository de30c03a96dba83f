-- Ranges: what they hold, and how they come from codes.
use Rattle.std.specs.Prelude.{◌≡◌, Bool, true, false, if◌then◌else◌, ◌&&◌, ℤ, pos, negsuc, Some, None, Option, int_le, int_lt, refl}
use Rattle.intervals.specs.declared.range.Range.{Range}
use Rattle.intervals.specs.Word.{proper}

abbrev pub range_if : (lo hi : ℤ) (ok : Bool) → proper lo hi ≡ ok → Option Range
range_if lo hi true p = Some (record { lo = lo; hi = hi; ends = p })
range_if lo hi false p = None

-- the range from lo to hi; none where that is empty or leaves the word range
unfoldable pub range : ℤ → ℤ → Option Range
range lo hi = range_if lo hi (proper lo hi) refl

-- the type that a value's codes name: a declared range lies in -32,768..32,767
abbrev pub declared_by : ℤ → ℤ → Option Range
declared_by a b = if int_le (negsuc 32767) a && int_le b (pos 32767) then range a b else None

abbrev pub held : Range → ℤ → Bool
held r z = int_le r.lo z && int_le z r.hi

-- whether the first lies within the second
abbrev pub inside : Range → Range → Bool
inside r s = int_le s.lo r.lo && int_le r.hi s.hi

-- the number of a range that is nearest 0
abbrev pub nearest : Range → ℤ
nearest r = if int_lt (pos 0) r.lo then r.lo else (if int_lt r.hi (pos 0) then r.hi else pos 0)

-- a value's code is the value; a code that is not held is unreadable
abbrev pub decoded : Range → ℤ → Option ℤ
decoded r code = if held r code then Some code else None
