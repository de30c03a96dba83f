use Rattle.std.proofs.Common.{arith}
use Rattle.std.proofs.lemmas.Int.{ints, to_z-of_z}
use Rattle.intervals.proofs.Good.{range_is, range_not}
use Rattle.intervals.proofs.range.Range.spanning.Goals as goal

pub returns-in_err-lo : goal.returns-in_err-lo
returns-in_err-lo c = grind (arith, range_not)

pub returns-in_err-hi : goal.returns-in_err-hi
returns-in_err-hi c = grind (arith, range_not)

pub returns-then-lo-hi : goal.returns-then-lo-hi
returns-then-lo-hi c = range_is _ _ _ (grind (arith, to_z-of_z)) (grind (arith, to_z-of_z))

pub returns-else-lo-hi : goal.returns-else-lo-hi
returns-else-lo-hi c = grind (arith, ints, range_not)
