use Rattle.std.proofs.Common.{rules}
use Rattle.sheet.proofs.Whole.{whole, handed}
use Rattle.sheet.proofs.loaded.Sheet.automata.Goals as goal

pub returns : goal.returns
returns c = handed _ 32 _ _ (whole c.args.self.now).counts.automata (whole c.args.self.now).automata (search rules)
