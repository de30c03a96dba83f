-- What holds of every loaded sheet: the facts by which its users index its tables without a test.
use Rattle.std.specs.Prelude.{◌≡◌, ℕ, ◌<◌, ◌≤◌, List, length}
use Rattle.std.specs.List.{AllWithin, All}
use Rattle.tables.specs.declared.Automaton.{Automaton}
use Rattle.tables.specs.declared.Sizes.{Sizes}
use Rattle.tables.specs.declared.Value.{Value}
use Rattle.tables.specs.declared.Transition.{Transition}
use Rattle.tables.specs.declared.Action.{Action}
use Rattle.tables.specs.Load.{part}
use Rattle.tables.specs.Allowed.{ValueAllowed, AutomatonAllowed, TransitionAllowed, GuardAllowed, ActionAllowed, NodeAllowed, CountsAllowed, EachOnce}
use Rattle.tables.specs.Records.{value_row, transition_row, action_row}
use Rattle.sheet.specs.Contents.{Contents, sizes}

-- a local's owner is an automaton
abbrev pub ValueWhole : Sizes → Value → Type 0
ValueWhole n v = ValueAllowed n (value_row v)

abbrev pub TransitionWhole : Sizes → Transition → Type 0
TransitionWhole n t = TransitionAllowed n (transition_row t)

-- the event or the value that an action names exists, and its expression lies inside the nodes
abbrev pub ActionWhole : Sizes → Action → Type 0
ActionWhole n a = ActionAllowed n (action_row a)

-- both states of a transition are among so many
abbrev pub Between : ℕ → Transition → Type 0
Between states t = (t.source < states) × (t.destination < states)

-- an automaton's stretches lie inside their tables, and its own and its listed transitions' states exist
pub record AutomatonWhole (c : Contents) (automaton : Automaton) : Type 0 where
  pub allowed : AutomatonAllowed (sizes c) automaton
  pub initial : automaton.initial < automaton.states
  pub listed : All (Between automaton.states) (part automaton.transitions c.transitions)

pub record Whole (c : Contents) : Type 0 where
  pub counts : CountsAllowed (sizes c)
  pub values : All (ValueWhole (sizes c)) c.values
  pub automata : All (AutomatonWhole c) c.automata
  pub turns : EachOnce (length c.automata) c.turns
  pub transitions : All (TransitionWhole (sizes c)) c.transitions
  pub guards : All (GuardAllowed (sizes c)) c.guards
  pub actions : All (ActionWhole (sizes c)) c.actions
  pub nodes : All (NodeAllowed (sizes c)) c.nodes

-- r is the whole table: at most so many records, of each of which P holds
pub record Handed {X : Type 0} (P : X → Type 0) (most : ℕ) (table r : List X) : Type 0 where
  pub value : r ≡ table
  pub few : length r ≤ most
  pub each : AllWithin P r 0 (length r)

-- r is the whole turn list, which has each of n automata once
pub record HandedTurns (n : ℕ) (table r : List ℕ) : Type 0 where
  pub value : r ≡ table
  pub once : EachOnce n r
