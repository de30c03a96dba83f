use Rattle.tables.specs.Tables.{lent}
use Rattle.tables.proofs.Judged.{judged_exactly}
use Rattle.tables.proofs.judgement.judge.Goals as goal

pub returns : goal.returns
returns c = record { verdict = c.judge_in_order.ensures; exact = rw c.judge_in_order.ensures (judged_exactly (lent c.args.tables.now)) }
