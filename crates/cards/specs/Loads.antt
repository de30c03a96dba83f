-- The judgement on small tables, computed.
use Rattle.std.specs.Prelude.{◌≡◌, ℕ, List, [], ◌∷◌, map, ℤ, pos, negsuc}
use Rattle.tables.specs.declared.Stretch.{Stretch}
use Rattle.tables.specs.declared.ValueRow.{ValueRow}
use Rattle.tables.specs.declared.EventRow.{EventRow}
use Rattle.tables.specs.declared.Automaton.{Automaton}
use Rattle.tables.specs.declared.TransitionRow.{TransitionRow}
use Rattle.tables.specs.declared.Guard.{Guard}
use Rattle.tables.specs.declared.ActionRow.{ActionRow}
use Rattle.tables.specs.declared.Node.{Node}
use Rattle.tables.specs.Answers.{Answer, answer}
use Rattle.tables.specs.Tables.{Lent}
use Rattle.tables.specs.Load.{judged}

abbrev stretch : ℕ → ℕ → Stretch
stretch first count = record { first = first; count = count }

-- a value by its kind and owner
abbrev value : ℕ → ℕ → ValueRow
value kind owner = record { kind = kind; owner = owner; a = pos 0; b = pos 9 }

abbrev event : ℕ → EventRow
event kind = record { kind = kind }

-- an automaton of so many states that lists the transitions of a stretch
abbrev automaton : ℕ → ℕ → Stretch → Automaton
automaton states initial transitions = record { states = states; initial = initial; actions = stretch 0 0; transitions = transitions }

-- a transition on event 0 with one guard and one action
abbrev transition : ℕ → ℕ → ℕ → TransitionRow
transition source destination urgent = record { source = source; destination = destination; trigger = 0; urgent = urgent; guards = stretch 0 1; actions = stretch 0 1 }

abbrev guard : ℕ → ℕ → Guard
guard first count = record { nodes = stretch first count }

-- an action that assigns value 1 the expression of a stretch
abbrev assign : Stretch → ActionRow
assign nodes = record { kind = 1; target = 1; nodes = nodes }

abbrev node : ℕ → ℤ → Node
node code argument = record { code = code; argument = argument }

-- one automaton of two states, with one transition
abbrev small : List ValueRow → List TransitionRow → List Guard → List Node → List ℕ → Lent
small values transitions guards nodes turns = record {
  values = values;
  events = event 0 ∷ [];
  automata = automaton 2 0 (stretch 0 1) ∷ [];
  turns = turns;
  transitions = transitions;
  guards = guards;
  actions = assign (stretch 3 1) ∷ [];
  nodes = nodes;
}

abbrev values : List ValueRow
values = value 0 0 ∷ value 3 0 ∷ []

-- value 0 equals 3; 5
abbrev nodes : List Node
nodes = node 16 (pos 0) ∷ node 0 (pos 0) ∷ node 1 (pos 3) ∷ node 1 (pos 5) ∷ []

abbrev empty : Lent
empty = record { values = []; events = []; automata = []; turns = []; transitions = []; guards = []; actions = []; nodes = [] }

abbrev examples : List Lent
examples =
    empty
    ∷ small values (transition 0 1 0 ∷ []) (guard 0 3 ∷ []) nodes (0 ∷ [])
    ∷ small (value 4 0 ∷ value 3 0 ∷ []) (transition 0 1 0 ∷ []) (guard 0 3 ∷ []) nodes (0 ∷ [])
    ∷ small (value 0 0 ∷ value 3 1 ∷ []) (transition 0 1 0 ∷ []) (guard 0 3 ∷ []) nodes (0 ∷ [])
    ∷ small values (transition 0 1 2 ∷ []) (guard 0 3 ∷ []) nodes (0 ∷ [])
    ∷ small values (transition 0 2 0 ∷ []) (guard 0 3 ∷ []) nodes (0 ∷ [])
    ∷ small values (transition 0 1 0 ∷ []) (guard 0 0 ∷ []) nodes (0 ∷ [])
    ∷ small values (transition 0 1 0 ∷ []) (guard 0 4 ∷ []) nodes (0 ∷ [])
    ∷ small values (transition 0 1 0 ∷ []) (guard 0 5 ∷ []) nodes (0 ∷ [])
    ∷ small values (transition 0 1 0 ∷ []) (guard 0 3 ∷ []) (node 16 (pos 0) ∷ node 0 (pos 2) ∷ node 1 (pos 3) ∷ node 1 (pos 5) ∷ []) (0 ∷ [])
    ∷ small values (transition 0 1 0 ∷ []) (guard 0 3 ∷ []) (node 16 (pos 0) ∷ node 0 (negsuc 0) ∷ node 1 (pos 3) ∷ node 1 (pos 5) ∷ []) (0 ∷ [])
    ∷ small values (transition 0 1 0 ∷ []) (guard 0 3 ∷ []) nodes []
    ∷ small values (transition 0 1 0 ∷ []) (guard 0 3 ∷ []) nodes (0 ∷ 0 ∷ [])
    ∷ small values (transition 0 2 0 ∷ []) (guard 0 3 ∷ []) nodes (1 ∷ [])
    ∷ []

-- a refusal by its number and what it names
abbrev refused : ℕ → List ℤ → Answer
refused number names = record { number = number; names = names }

abbrev expected : List Answer
expected =
    refused 0 []
    ∷ refused 0 []
    ∷ refused 2 (pos 0 ∷ pos 0 ∷ [])
    ∷ refused 3 (pos 0 ∷ pos 1 ∷ [])
    ∷ refused 2 (pos 3 ∷ pos 0 ∷ [])
    ∷ refused 3 (pos 2 ∷ pos 0 ∷ pos 0 ∷ [])
    ∷ refused 2 (pos 4 ∷ pos 0 ∷ [])
    ∷ refused 0 []
    ∷ refused 3 (pos 4 ∷ pos 0 ∷ [])
    ∷ refused 3 (pos 6 ∷ pos 1 ∷ [])
    ∷ refused 3 (pos 6 ∷ pos 1 ∷ [])
    ∷ refused 4 []
    ∷ refused 4 []
    ∷ refused 3 (pos 2 ∷ pos 0 ∷ pos 0 ∷ [])
    ∷ []

abbrev pub LoadCards : Type 0
LoadCards = map (λ t. answer (judged t)) examples ≡ expected
