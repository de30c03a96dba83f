-- What a loaded sheet holds, as lists of its records, and the whole numbers that they stand for.
use Rattle.std.specs.Prelude.{ℕ, List, map, length}
use Rattle.tables.specs.declared.Automaton.{Automaton}
use Rattle.tables.specs.declared.Guard.{Guard}
use Rattle.tables.specs.declared.Node.{Node}
use Rattle.tables.specs.declared.Sizes.{Sizes}
use Rattle.tables.specs.declared.Value.{Value}
use Rattle.tables.specs.declared.EventKind.{EventKind}
use Rattle.tables.specs.declared.Transition.{Transition}
use Rattle.tables.specs.declared.Action.{Action}
use Rattle.tables.specs.Tables.{Lent}
use Rattle.tables.specs.Records.{value_row, event_row, transition_row, action_row}

pub record Contents : Type 0 where
  pub values : List Value
  pub events : List EventKind
  pub automata : List Automaton
  pub turns : List ℕ
  pub transitions : List Transition
  pub guards : List Guard
  pub actions : List Action
  pub nodes : List Node

-- the length of each table
abbrev pub sizes : Contents → Sizes
sizes c = record {
  values = length c.values;
  events = length c.events;
  automata = length c.automata;
  transitions = length c.transitions;
  guards = length c.guards;
  actions = length c.actions;
  nodes = length c.nodes;
}

abbrev pub written : Contents → Lent
written c = record {
  values = map value_row c.values;
  events = map event_row c.events;
  automata = c.automata;
  turns = c.turns;
  transitions = map transition_row c.transitions;
  guards = c.guards;
  actions = map action_row c.actions;
  nodes = c.nodes;
}

abbrev pub contents_of : List Value → List EventKind → List Automaton → List ℕ → List Transition → List Guard → List Action → List Node → Contents
contents_of values events automata turns transitions guards actions nodes = record {
  values = values;
  events = events;
  automata = automata;
  turns = turns;
  transitions = transitions;
  guards = guards;
  actions = actions;
  nodes = nodes;
}
