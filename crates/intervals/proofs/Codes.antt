-- Values and their codes.
use Rattle.std.proofs.Common.{◌≡◌, true, ℤ, Some, arith}
use Rattle.std.proofs.lemmas.Int.{ints}
use Rattle.intervals.specs.declared.range.Range.{Range}
use Rattle.intervals.specs.Range.{held, inside, nearest, decoded}

pub rest_held : (r : Range) → held r (nearest r) ≡ true
rest_held r = grind (arith, ints)

pub decoded_held : (r : Range) (code v : ℤ) → decoded r code ≡ Some v → held r v ≡ true
decoded_held r code v e = grind arith

pub encoded_decodes : (r : Range) (v : ℤ) → held r v ≡ true → decoded r v ≡ Some v
encoded_decodes r v e = grind arith

pub inside_holds : (r s : Range) (v : ℤ) → inside r s ≡ true → held r v ≡ true → held s v ≡ true
inside_holds r s v e h = grind (arith, ints)
