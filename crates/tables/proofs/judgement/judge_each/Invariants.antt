use Rattle.std.proofs.Common.{◌≡◌, ℕ, ◌+◌, drop}
use Rattle.tables.specs.Load.{Verdict, each}
use Rattle.tables.specs.Each.{Follows}
use Rattle.tables.proofs.judgement.judge_each.Given as goal

abbrev pub invariant-loop-k : goal.invariant-loop-k
invariant-loop-k g l =
    (f : ℕ → g.row.T.Denot → Verdict) → Follows g.F.Fn l.judge f → each f (l.first + l.k) (drop l.k l.items) ≡ each f l.first l.items
