-- The range guest.
use Rattle.std.specs.Prelude.{ℤ}
use Rattle.guest.specs.Meaning.{Meaning}
use Rattle.prefix.specs.Language.{Language, right_type, right_value, guard_verdict, guard_cut}
use Rattle.intervals.specs.declared.range.Range.{Range}
use Rattle.intervals.specs.declared.operations.Byte.{Byte}
use Rattle.intervals.specs.declared.operations.Arithmetic.{Arithmetic}
use Rattle.intervals.specs.Range.{declared_by, held, inside, nearest, decoded}
use Rattle.intervals.specs.Grammar.{head}
use Rattle.intervals.specs.Value.{by_value}
use Rattle.intervals.specs.Typing.{by_type}
use Rattle.intervals.specs.Narrow.{trimmed}

abbrev pub language : Language Byte Arithmetic Range ℤ
language = record { grammar = head; by_type = by_type; by_value = by_value; trimmed = trimmed }

abbrev pub ranges : Meaning Range ℤ
ranges = record {
  make = declared_by;
  decode = decoded;
  encode = λ v. v;
  rest = nearest;
  holds = held;
  within = inside;
  typed = right_type language;
  value = right_value language;
  verdict = guard_verdict language;
  narrow = guard_cut language;
}
