-- The numbers of what a guest answers.
use Rattle.std.specs.Prelude.{ℕ, Ok, Err, Result}
use Rattle.guest.specs.declared.answers.Reason.{Reason}
use Rattle.guest.specs.declared.answers.Reason.TheVariants.{BadShape, DivisorZero, OutsideWord}
use Rattle.guest.specs.declared.answers.NarrowRefusal.{NarrowRefusal}
use Rattle.guest.specs.declared.answers.NarrowRefusal.TheVariants.{NoGuard, Never}

-- a reason by its number; it names nothing
abbrev pub reason_number : Reason → ℕ
reason_number BadShape = 1
reason_number DivisorZero = 2
reason_number OutsideWord = 3

-- the refusal that a sheet with such a guard meets
abbrev pub narrow_refusal_number : NarrowRefusal → ℕ
narrow_refusal_number NoGuard = 7
narrow_refusal_number Never = 9

-- the refusal that a sheet meets by this answer of the narrowing call, 0 for none
abbrev pub narrowing_number : Result (Unit {0}) NarrowRefusal → ℕ
narrowing_number (Ok done) = 0
narrowing_number (Err refusal) = narrow_refusal_number refusal
