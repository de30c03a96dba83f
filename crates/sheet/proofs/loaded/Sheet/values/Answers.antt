use Rattle.std.proofs.Common.{rules}
use Rattle.sheet.proofs.Whole.{whole, handed}
use Rattle.sheet.proofs.loaded.Sheet.values.Goals as goal

pub returns : goal.returns
returns c = handed _ 128 _ _ (whole c.args.self.now).counts.values (whole c.args.self.now).values (search rules)
