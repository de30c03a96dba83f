use Rattle.std.proofs.Common.{rules}
use Rattle.sheet.proofs.Whole.{whole, handed}
use Rattle.sheet.proofs.loaded.Sheet.nodes.Goals as goal

pub returns : goal.returns
returns c = handed _ 8192 _ _ (whole c.args.self.now).counts.nodes (whole c.args.self.now).nodes (search rules)
