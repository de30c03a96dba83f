use Rattle.std.proofs.Common.{rules}
use Rattle.ranges.proofs.evaluation.apply.Goals.{in-Add, in-Subtract, in-Multiply, in-Divide-2}
use Rattle.ranges.proofs.evaluation.apply.Goals as goal

pub returns : goal.returns
returns c = elim c.match-operation.branch [ in-Add w ↦ search rules | in-Subtract w ↦ search rules | in-Multiply w ↦ search rules | in-Divide-2 w ↦ search rules ]
