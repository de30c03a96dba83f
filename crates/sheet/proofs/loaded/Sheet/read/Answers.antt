use Rattle.std.proofs.Common.{refl}
use Rattle.tables.specs.Tables.{lent}
use Rattle.sheet.proofs.Alone.{stands_for}
use Rattle.sheet.proofs.Loads.{fine_loads}
use Rattle.sheet.proofs.loaded.Sheet.read.Goals as goal

pub returns : goal.returns
returns c =
    let made = c.in_ok-judge.ensures in
    (fine_loads (lent c.args.tables.now) made.verdict (made.exact.0 refl), stands_for _ _ c.in_ok-copied.ensures)
