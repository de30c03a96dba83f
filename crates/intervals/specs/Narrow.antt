-- What a guard's yes leaves of a range.
use Rattle.std.specs.Prelude.{if◌then◌else◌, ℤ, pos, ◌+ℤ◌, ◌-ℤ◌, Option}
use Rattle.std.specs.Int.{int_min, int_max}
use Rattle.prefix.specs.declared.grammar.Order.{Order}
use Rattle.prefix.specs.declared.grammar.Order.TheVariants.{Equal, NotEqual, Less, LessOrEqual, Greater, GreaterOrEqual}
use Rattle.intervals.specs.declared.range.Range.{Range}
use Rattle.intervals.specs.Range.{range}
use Rattle.intervals.specs.Value.{same}

-- the part of a range that satisfies a comparison with c, if there is any; "not equal" cuts only an end
abbrev pub trimmed : Order → ℤ → Range → Option Range
trimmed Equal c r = range (int_max r.lo c) (int_min r.hi c)
trimmed NotEqual c r = range (if same r.lo c then r.lo +ℤ pos 1 else r.lo) (if same r.hi c then r.hi -ℤ pos 1 else r.hi)
trimmed Less c r = range r.lo (int_min r.hi (c -ℤ pos 1))
trimmed LessOrEqual c r = range r.lo (int_min r.hi c)
trimmed Greater c r = range (int_max r.lo (c +ℤ pos 1)) r.hi
trimmed GreaterOrEqual c r = range (int_max r.lo c) r.hi
