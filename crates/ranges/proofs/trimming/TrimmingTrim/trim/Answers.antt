use Rattle.std.proofs.Common.{arith}
use Rattle.std.proofs.lemmas.Int.{to_z-of_z}
use Rattle.ranges.proofs.trimming.TrimmingTrim.trim.Goals as goal

pub returns-in-Equal : goal.returns-in-Equal
returns-in-Equal c = grind (arith, to_z-of_z)

pub returns-in-NotEqual : goal.returns-in-NotEqual
returns-in-NotEqual c = grind (arith, to_z-of_z)
