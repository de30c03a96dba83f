use Rattle.std.proofs.Common.{arith, of_calls}
use Rattle.std.proofs.lemmas.Int.{to_z-of_z}
use Rattle.ranges.proofs.typing.corners.Goals as goal

pub returns : goal.returns
returns g c = (c.at-a.result, c.at-b.result, c.at-c.result, c.at-d.result, search of_calls, search of_calls, search of_calls, search of_calls, grind (arith, to_z-of_z))
