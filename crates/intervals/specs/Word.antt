-- The word range, -2,147,483,648..2,147,483,647, and which two numbers are the ends of a range in it.
use Rattle.std.specs.Prelude.{Bool, ◌&&◌, ℤ, pos, negsuc, int_le}

abbrev pub least : ℤ
least = negsuc 2147483647

abbrev pub greatest : ℤ
greatest = pos 2147483647

abbrev pub in_word : ℤ → Bool
in_word z = int_le least z && int_le z greatest

abbrev pub proper : ℤ → ℤ → Bool
proper lo hi = in_word lo && (in_word hi && int_le lo hi)
