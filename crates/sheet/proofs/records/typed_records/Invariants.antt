use Rattle.std.proofs.Common.{Ok, take, vec_items}
use Rattle.std.specs.List.{AllZip}
use Rattle.sheet.proofs.records.typed_records.Given as goal

abbrev pub invariant-loop-row : goal.invariant-loop-row
invariant-loop-row g l = AllZip (λ x y. g.T.TryFrom.try_from_gives x (Ok y)) (take l.row-index l.rows) (vec_items l.records)
