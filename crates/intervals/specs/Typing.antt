-- What each part of an expression has under types: a number its range, if it has one; a truth, whether all its parts have one.
use Rattle.std.specs.Prelude.{Bool, if◌then◌else◌, ◌&&◌, ℤ, pos, ◌+ℤ◌, ◌-ℤ◌, ◌*ℤ◌, Some, None, Option, int_div}
use Rattle.std.specs.Int.{int_min, int_max}
use Rattle.prefix.specs.Outcome.{with_both, choice_type, both_typed}
use Rattle.prefix.specs.Pass.{Algebra}
use Rattle.intervals.specs.declared.range.Range.{Range}
use Rattle.intervals.specs.declared.operations.Byte.{Byte}
use Rattle.intervals.specs.declared.operations.Arithmetic.{Arithmetic}
use Rattle.intervals.specs.declared.operations.Arithmetic.TheVariants.{Add, Subtract, Multiply, Divide}
use Rattle.intervals.specs.Range.{range, held}

abbrev pub least_of : ℤ → ℤ → ℤ → ℤ → ℤ
least_of a b c d = int_min (int_min a b) (int_min c d)

abbrev pub greatest_of : ℤ → ℤ → ℤ → ℤ → ℤ
greatest_of a b c d = int_max (int_max a b) (int_max c d)

-- from the least to the greatest of the four results at the ends
abbrev pub corners : (ℤ → ℤ → ℤ) → Range → Range → Option Range
corners f r s =
    range (least_of (f r.lo s.lo) (f r.lo s.hi) (f r.hi s.lo) (f r.hi s.hi))
    (greatest_of (f r.lo s.lo) (f r.lo s.hi) (f r.hi s.lo) (f r.hi s.hi))

-- none where a result may leave the word range or a divisor be 0
abbrev pub spread : Arithmetic → Range → Range → Option Range
spread Add r s = range (r.lo +ℤ s.lo) (r.hi +ℤ s.hi)
spread Subtract r s = range (r.lo -ℤ s.hi) (r.hi -ℤ s.lo)
spread Multiply r s = corners (λ x y. x *ℤ y) r s
spread Divide r s = if held s (pos 0) then None else corners int_div r s

-- from the lesser lo to the greater hi
abbrev pub hull : Range → Range → Option Range
hull r s = range (int_min r.lo s.lo) (int_max r.hi s.hi)

abbrev pub byte_type : Option Range → Option Range
byte_type None = None
byte_type (Some r) = range (pos 0) (pos 255)

abbrev pub by_type : Algebra Byte Arithmetic Range (Option Range) Bool
by_type = record {
  leaf = λ r. r;
  constant = λ z. range z z;
  unary = λ u a. byte_type a;
  binary = λ f a b. with_both a b (spread f);
  choose = choice_type hull;
  compare = λ o a b. both_typed a b;
  not = λ a. a;
  join = λ l a b. a && b;
}
