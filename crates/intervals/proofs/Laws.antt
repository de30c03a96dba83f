-- The range guest keeps the laws of guests.
use Rattle.std.proofs.Common.{◌≡◌, true, ℤ, Some, None, Ok, Err, Option, Result, rules}
use Rattle.guest.specs.declared.answers.Reason.{Reason}
use Rattle.guest.specs.Laws.{Laws}
use Rattle.prefix.specs.declared.grammar.Order.{Order}
use Rattle.prefix.proofs.ByCode.{NoneRead, reads_by_code}
use Rattle.prefix.proofs.Parts.{leaf_good, pair_good, choice_good, comparison_told, not_told, join_told}
use Rattle.prefix.proofs.Related.{Related}
use Rattle.prefix.proofs.Laws.{Good, Told, Kept, Sound, typed_gives, guard_decides, yes_fits, never_yes, alike_type, alike_value, alike_verdict, alike_cut, unread_stays}
use Rattle.intervals.specs.declared.range.Range.{Range}
use Rattle.intervals.specs.declared.operations.Byte.{Byte}
use Rattle.intervals.specs.Grammar.{constant, codes}
use Rattle.intervals.specs.Value.{by_value, compared}
use Rattle.intervals.specs.Typing.{spread, hull, by_type}
use Rattle.intervals.specs.Narrow.{trimmed}
use Rattle.intervals.specs.Meaning.{language, ranges}
use Rattle.intervals.proofs.Good.{held_in}
use Rattle.intervals.proofs.Codes.{rest_held, decoded_held, encoded_decodes, inside_holds}
use Rattle.intervals.proofs.Trim.{trim_keeps}
use Rattle.intervals.proofs.Interval.{spread_good, hull_good, byte_good, constant_good}

no_codes_read : NoneRead codes
no_codes_read = search rules

byte_typed : (u : Byte) (p : Option Range) (a : Result ℤ Reason) → Good ranges p a → Good ranges (by_type.unary u p) (by_value.unary u a)
byte_typed u None a h = tt
byte_typed u (Some r) (Err e) h = absurd h
byte_typed u (Some r) (Ok x) h = byte_good x

nodes : Related by_type by_value (Good ranges) Told
nodes = record {
  constant = constant_good;
  unary = byte_typed;
  binary = λ f. pair_good ranges (spread f) (by_value.binary f) (λ r s x y h k. spread_good f r s x y (held_in r x h) (held_in s y k));
  choose = choice_good ranges hull (λ r s x y c h k. hull_good r s x y c (held_in r x h) (held_in s y k));
  compare = λ o. comparison_told ranges (compared o);
  not = not_told;
  join = join_told;
}

keeps : (o : Order) (z : ℤ) (t : Range) (v : ℤ) → ranges.holds t v ≡ true → by_value.compare o (Ok v) (Ok z) ≡ Ok true → Kept ranges (trimmed o z t) v
keeps o z t v h e = let d : compared o v z ≡ true = cc in trim_keeps o z t v (held_in t v h) d

sound : Sound ranges language
sound = record { reads_by_code = reads_by_code constant codes (λ z. tt) no_codes_read; leaf = leaf_good ranges; nodes = nodes; trim_keeps = keeps }

pub range_laws : Laws ranges
range_laws = record {
  rest_is_held = rest_held;
  read_code_is_held = decoded_held;
  held_code_reads_back = λ a b t v e h. encoded_decodes t v h;
  wider_type_holds_it = inside_holds;
  typed_right_side_gives_its_type = λ e types row t f d. typed_gives ranges language sound types row f e t d;
  guard_gives_yes_or_no = λ e types after row f d. guard_decides ranges language sound types row f e after d;
  yes_fits_narrowed_types = λ e types after row f d y. yes_fits ranges language sound types row f e y after d;
  never_is_not_yes = λ e types row f d y. never_yes ranges language sound types row f e y d;
  same_reads_same_type = alike_type ranges language sound;
  same_reads_same_value = alike_value ranges language sound;
  same_reads_same_verdict = alike_verdict ranges language sound;
  same_reads_same_narrowing = alike_cut ranges language sound;
  unread_types_stay = λ e types after d x n. unread_stays ranges language sound e types after x n d;
}
