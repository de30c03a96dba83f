use Rattle.std.proofs.Common.{length, inl, inr, arith}
use Rattle.tables.proofs.Turns.{noted_more, noted_stop}
use Rattle.tables.proofs.judgement.note_turns.Goals as goal
use Rattle.tables.proofs.judgement.note_turns.Goals.{then-a-seen-via-then-a-seen, then-a-seen-via-else-a-seen+then-seen-a}

pub returns-then-a-seen : goal.returns-then-a-seen
returns-then-a-seen c =
    let stop = noted_stop (length c.args.seen.now) c.args.turns.now c.loop-turn.seen c.loop-turn.turn-index c.from-a.result c.from-a.ensures c.loop-turn-test.true c.loop-turn.invariant in
    elim c.then-a-seen.branch [
      | then-a-seen-via-then-a-seen w ↦ stop (inl (omega arith))
      | then-a-seen-via-else-a-seen+then-seen-a w ↦ stop (inr (omega arith, w.if-seen-a.true))
    ]

pub loop-turn-preserved : goal.loop-turn-preserved
loop-turn-preserved c =
    noted_more (length c.args.seen.now) c.args.turns.now c.loop-turn.seen c.loop-turn.turn-index c.from-a.result c.from-a.ensures c.loop-turn-test.true c.loop-turn.invariant
    (omega arith) c.if-seen-a.false
