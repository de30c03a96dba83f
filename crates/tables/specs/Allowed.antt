-- Which tables are allowed, said directly: limits, indices and stretches of each record, states, turns.
use Rattle.std.specs.Prelude.{◌≡◌, ℕ, zero, suc, ◌+◌, ◌<◌, ◌≤◌, List, length, ℤ, pos, negsuc}
use Rattle.std.specs.List.{All}
use Rattle.tables.specs.declared.rows.Stretch.{Stretch}
use Rattle.tables.specs.declared.rows.ValueRow.{ValueRow}
use Rattle.tables.specs.declared.rows.EventRow.{EventRow}
use Rattle.tables.specs.declared.rows.Automaton.{Automaton}
use Rattle.tables.specs.declared.rows.TransitionRow.{TransitionRow}
use Rattle.tables.specs.declared.rows.Guard.{Guard}
use Rattle.tables.specs.declared.rows.ActionRow.{ActionRow}
use Rattle.tables.specs.declared.rows.Node.{Node}
use Rattle.tables.specs.declared.rows.Sizes.{Sizes}
use Rattle.tables.specs.Tables.{Lent, sizes}
use Rattle.tables.specs.Load.{part, times}

-- the stretch ends inside a table of n records
abbrev pub EndsIn : ℕ → Stretch → Type 0
EndsIn n s = s.first + s.count ≤ n

-- 1 to 32 nodes of a table of n nodes
pub record Expression (n : ℕ) (s : Stretch) : Type 0 where
  pub some : 1 ≤ s.count
  pub few : s.count ≤ 32
  pub inside : EndsIn n s

-- the integer is the number of one of n records
abbrev pub Names : ℕ → ℤ → Type 0
Names n (pos k) = k < n
Names n (negsuc k) = ⊥

-- Inputs, outputs and shared values have the owner 0; a local is owned by an automaton.
abbrev pub Owned : ℕ → ℕ → ℕ → Type 0
Owned automata zero owner = owner ≡ 0
Owned automata (suc zero) owner = owner ≡ 0
Owned automata (suc (suc zero)) owner = owner ≡ 0
Owned automata (suc (suc (suc zero))) owner = owner < automata
Owned automata (suc (suc (suc (suc k)))) owner = ⊥

abbrev pub ValueAllowed : Sizes → ValueRow → Type 0
ValueAllowed n r = Owned n.automata r.kind r.owner

abbrev pub EventAllowed : EventRow → Type 0
EventAllowed r = r.kind < 3

pub record AutomatonAllowed (n : Sizes) (r : Automaton) : Type 0 where
  pub some : 1 ≤ r.states
  pub few : r.states ≤ 32
  pub actions : EndsIn n.actions r.actions
  pub transitions : EndsIn n.transitions r.transitions

pub record TransitionAllowed (n : Sizes) (r : TransitionRow) : Type 0 where
  pub source : r.source ≤ 31
  pub destination : r.destination ≤ 31
  pub urgent : r.urgent ≤ 1
  pub trigger : r.trigger < n.events
  pub guards : EndsIn n.guards r.guards
  pub actions : EndsIn n.actions r.actions

abbrev pub GuardAllowed : Sizes → Guard → Type 0
GuardAllowed n r = Expression n.nodes r.nodes

-- An action emits an event and has no expression, or assigns a value what an expression gives.
abbrev pub Acts : Sizes → ℕ → ℕ → Stretch → Type 0
Acts n zero target s = (target < n.events) × (s.first ≡ 0) × (s.count ≡ 0)
Acts n (suc zero) target s = (target < n.values) × Expression n.nodes s
Acts n (suc (suc k)) target s = ⊥

abbrev pub ActionAllowed : Sizes → ActionRow → Type 0
ActionAllowed n r = Acts n r.kind r.target r.nodes

-- a node that reads names a value
abbrev pub NodeAllowed : Sizes → Node → Type 0
NodeAllowed n r = r.code ≡ 0 → Names n.values r.argument

-- both states of a transition are among so many
abbrev pub GoesWithin : ℕ → TransitionRow → Type 0
GoesWithin states t = (t.source < states) × (t.destination < states)

-- an automaton has its initial state and the states of the transitions that it lists
pub record StatesExist (ts : List TransitionRow) (automaton : Automaton) : Type 0 where
  pub initial : automaton.initial < automaton.states
  pub listed : All (GoesWithin automaton.states) (part automaton.transitions ts)

-- each of n automata stands in the list once, and nothing else
pub record EachOnce (n : ℕ) (turns : List ℕ) : Type 0 where
  pub known : All (λ a. a < n) turns
  pub once : (a : ℕ) → a < n → times a turns ≡ 1

pub record CountsAllowed (n : Sizes) : Type 0 where
  pub values : n.values ≤ 128
  pub events : n.events ≤ 64
  pub automata : n.automata ≤ 32
  pub transitions : n.transitions ≤ 512
  pub guards : n.guards ≤ 1024
  pub actions : n.actions ≤ 1024
  pub nodes : n.nodes ≤ 8192

pub record Allowed (t : Lent) : Type 0 where
  pub counts : CountsAllowed (sizes t)
  pub values : All (ValueAllowed (sizes t)) t.values
  pub events : All EventAllowed t.events
  pub automata : All (AutomatonAllowed (sizes t)) t.automata
  pub transitions : All (TransitionAllowed (sizes t)) t.transitions
  pub guards : All (GuardAllowed (sizes t)) t.guards
  pub actions : All (ActionAllowed (sizes t)) t.actions
  pub nodes : All (NodeAllowed (sizes t)) t.nodes
  pub states : All (StatesExist t.transitions) t.automata
  pub turns : EachOnce (length t.automata) t.turns
