use Rattle.std.proofs.Common.{length, take}
use Rattle.tables.specs.Noted.{Noted}
use Rattle.tables.proofs.judgement.note_turns.Given as goal

abbrev pub invariant-loop-turn : goal.invariant-loop-turn
invariant-loop-turn l = Noted (length l.fn.seen) (take l.turn-index l.turns) l.seen
