use Rattle.std.proofs.Common.{rules}
use Rattle.sheet.proofs.Whole.{whole, handed}
use Rattle.sheet.proofs.loaded.Sheet.actions.Goals as goal

pub returns : goal.returns
returns c = handed _ 1024 _ _ (whole c.args.self.now).counts.actions (whole c.args.self.now).actions (search rules)
