use Rattle.std.proofs.Common.{rules}
use Rattle.sheet.proofs.Whole.{whole, handed_turns}
use Rattle.sheet.proofs.loaded.Sheet.turns.Goals as goal

pub returns : goal.returns
returns c = handed_turns _ _ _ (whole c.args.self.now).turns (search rules)
