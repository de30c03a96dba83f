use Rattle.std.proofs.Common.{◌^◌, arith, w64}
use Rattle.std.proofs.lemmas.Int.{to_z-of_z, ints, fits_signed_mul}
use Rattle.ranges.proofs.wide.times.Goals as goal

pub returns : goal.returns
returns c =
    let product_fits = fits_signed_mul w64 c.args.a c.args.b (2 ^ 31) (2 ^ 31) (omega (arith, ints)) (omega (arith, ints)) (omega arith) in
    grind (arith, to_z-of_z)
