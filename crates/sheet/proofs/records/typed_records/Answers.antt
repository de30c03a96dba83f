use Rattle.std.proofs.Common.{Ok, vec_items, subst}
use Rattle.sheet.proofs.Typed.{typed_more}
use Rattle.sheet.proofs.records.typed_records.Goals as goal

pub loop-row-preserved : goal.loop-row-preserved
loop-row-preserved g c =
    typed_more (λ x y. g.T.TryFrom.try_from_gives x (Ok y)) c.args.rows.now (vec_items c.loop-row.records) (vec_items c.push.new.self) c.loop-row.row-index c.row-item.result c.unwrap.result
    c.loop-row.invariant c.loop-row-test.true c.row-item.is (subst (g.T.TryFrom.try_from_gives c.row-item.result) c.unwrap.ensures c.try_from.ensures) c.in_ok-push.ensures.items
