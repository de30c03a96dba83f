-- What each part of an expression gives on values: a number or a truth, or a reason.
use Rattle.std.specs.Prelude.{Bool, if◌then◌else◌, ◌&&◌, ℤ, pos, ◌+ℤ◌, ◌-ℤ◌, ◌*ℤ◌, Ok, Err, Result, int_div, int_le, int_lt}
use Rattle.std.proofs.Math.Bool as Bools
use Rattle.std.specs.Int.{int_rem_euclid}
use Rattle.guest.specs.declared.answers.Reason.{Reason}
use Rattle.guest.specs.declared.answers.Reason.TheVariants.{DivisorZero, OutsideWord}
use Rattle.prefix.specs.declared.grammar.Order.{Order}
use Rattle.prefix.specs.declared.grammar.Order.TheVariants.{Equal, NotEqual, Less, LessOrEqual, Greater, GreaterOrEqual}
use Rattle.prefix.specs.Codes.{is_zero}
use Rattle.prefix.specs.Outcome.{then_by, read_value, choice_value, comparison_value, not_value, join_value}
use Rattle.prefix.specs.Pass.{Algebra}
use Rattle.intervals.specs.declared.operations.Byte.{Byte}
use Rattle.intervals.specs.declared.operations.Arithmetic.{Arithmetic}
use Rattle.intervals.specs.declared.operations.Arithmetic.TheVariants.{Add, Subtract, Multiply, Divide}
use Rattle.intervals.specs.Word.{in_word}

-- a number, where it is in the word range
abbrev pub word : ℤ → Result ℤ Reason
word z = if in_word z then Ok z else Err OutsideWord

-- division drops the fraction toward 0
abbrev pub applied : Arithmetic → ℤ → ℤ → Result ℤ Reason
applied Add a b = word (a +ℤ b)
applied Subtract a b = word (a -ℤ b)
applied Multiply a b = word (a *ℤ b)
applied Divide a b = if is_zero b then Err DivisorZero else word (int_div a b)

abbrev pub same : ℤ → ℤ → Bool
same a b = int_le a b && int_le b a

abbrev pub compared : Order → ℤ → ℤ → Bool
compared Equal a b = same a b
compared NotEqual a b = Bools.not (same a b)
compared Less a b = int_lt a b
compared LessOrEqual a b = int_le a b
compared Greater a b = int_lt b a
compared GreaterOrEqual a b = int_le b a

abbrev pub byte_value : Result ℤ Reason → Result ℤ Reason
byte_value a = then_by a (λ x. Ok (int_rem_euclid x (pos 256)))

abbrev pub arithmetic_value : Arithmetic → Result ℤ Reason → Result ℤ Reason → Result ℤ Reason
arithmetic_value f a b = then_by a (λ x. then_by b (λ y. applied f x y))

abbrev pub by_value : Algebra Byte Arithmetic ℤ (Result ℤ Reason) (Result Bool Reason)
by_value = record {
  leaf = read_value;
  constant = λ z. Ok z;
  unary = λ u a. byte_value a;
  binary = arithmetic_value;
  choose = choice_value;
  compare = λ o. comparison_value (compared o);
  not = not_value;
  join = join_value;
}
