use Rattle.std.proofs.Common.{length}
use Rattle.prefix.proofs.walk.Walk.+number_truth.Given as goal

abbrev pub decreases-number : goal.decreases-number
decreases-number g l = length l.self.now.nodes.now

abbrev pub decreases-truth : goal.decreases-truth
decreases-truth g l = length l.self.now.nodes.now
