use Rattle.std.proofs.Common.{rules}
use Rattle.sheet.proofs.Whole.{whole, handed}
use Rattle.sheet.proofs.loaded.Sheet.transitions.Goals as goal

pub returns : goal.returns
returns c = handed _ 512 _ _ (whole c.args.self.now).counts.transitions (whole c.args.self.now).transitions (search rules)
