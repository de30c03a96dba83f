use Rattle.std.proofs.Common.{arith, w64, SFits, rules}
use lib.Signed.{quot_z}
use Rattle.std.proofs.lemmas.Int.{to_z-of_z}
use Rattle.ranges.proofs.wide.over.Goals as goal

pub returns : goal.returns
returns c =
    let quotient_fits : SFits w64 (quot_z c.args.a c.args.b) = search rules in
    grind (arith, to_z-of_z)
