-- What a comparison leaves of a range.
use Rattle.std.proofs.Common.{◌≡◌, true, ℤ, arith}
use Rattle.std.proofs.lemmas.Int.{ints, clamps}
use Rattle.prefix.specs.declared.grammar.Order.{Order}
use Rattle.prefix.specs.declared.grammar.Order.TheVariants.{Equal, NotEqual, Less, LessOrEqual, Greater, GreaterOrEqual}
use Rattle.intervals.specs.declared.range.Range.{Range}
use Rattle.intervals.specs.Value.{compared}
use Rattle.intervals.specs.Narrow.{trimmed}
use Rattle.prefix.proofs.Laws.{Kept}
use Rattle.intervals.specs.Meaning.{ranges}
use Rattle.intervals.proofs.Good.{In, range_ends, range_keeps}

-- a number of a range that satisfies a comparison lies in what the comparison leaves of the range
pub trim_keeps : (o : Order) (c : ℤ) (r : Range) (v : ℤ) → In r v → compared o v c ≡ true → Kept ranges (trimmed o c r) v
trim_keeps Equal c r v h e = let d = range_ends r in grind (arith, ints, clamps, range_keeps)
trim_keeps NotEqual c r v h e = let d = range_ends r in grind (arith, ints, clamps, range_keeps)
trim_keeps Less c r v h e = let d = range_ends r in grind (arith, ints, clamps, range_keeps)
trim_keeps LessOrEqual c r v h e = let d = range_ends r in grind (arith, ints, clamps, range_keeps)
trim_keeps Greater c r v h e = let d = range_ends r in grind (arith, ints, clamps, range_keeps)
trim_keeps GreaterOrEqual c r v h e = let d = range_ends r in grind (arith, ints, clamps, range_keeps)
