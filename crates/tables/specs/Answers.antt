-- What an answer says to a caller who knows numbers alone.
use Rattle.std.specs.Prelude.{ℕ, List, [], ◌∷◌, ℤ, pos, negsuc, Ok, Err, Result}
use Rattle.tables.specs.declared.refusal.Table.{Table}
use Rattle.tables.specs.declared.refusal.Table.TheVariants.{Values, Events, Automata, Transitions, Guards, Actions, Nodes}
use Rattle.tables.specs.declared.refusal.LoadRefusal.{LoadRefusal}
use Rattle.tables.specs.declared.refusal.LoadRefusal.TheVariants.{Memory, TooMany, Limit, Outside, NoInitialState, NoListedState, Turns}

-- 0 for a call that is not refused, else the refusal's number; and what the answer names
pub record Answer : Type 0 where
  pub number : ℕ
  pub names : List ℤ

abbrev pub table_number : Table → ℕ
table_number Values = 0
table_number Events = 1
table_number Automata = 2
table_number Transitions = 3
table_number Guards = 4
table_number Actions = 5
table_number Nodes = 6

-- A record goes by its table and its number in it. A state that does not exist goes by the table of automata,
-- the automaton, and the listed transition that has it, -1 for the initial state.
abbrev pub refusal : LoadRefusal → Answer
refusal Memory = record { number = 1; names = [] }
refusal (TooMany t) = record { number = 2; names = pos (table_number t) ∷ [] }
refusal (Limit t k) = record { number = 2; names = pos (table_number t) ∷ pos k ∷ [] }
refusal (Outside t k) = record { number = 3; names = pos (table_number t) ∷ pos k ∷ [] }
refusal (NoInitialState a) = record { number = 3; names = pos (table_number Automata) ∷ pos a ∷ negsuc 0 ∷ [] }
refusal (NoListedState a t) = record { number = 3; names = pos (table_number Automata) ∷ pos a ∷ pos t ∷ [] }
refusal Turns = record { number = 4; names = [] }

-- the answer of a call that is not refused and names nothing
abbrev pub fine : Answer
fine = record { number = 0; names = [] }

abbrev pub answer : Result (Unit {0}) LoadRefusal → Answer
answer (Ok _) = fine
answer (Err e) = refusal e
