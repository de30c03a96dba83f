-- The lent tables as lists, and the length of each.
use Rattle.std.specs.Prelude.{ℕ, List, length}
use Rattle.tables.specs.declared.rows.ValueRow.{ValueRow}
use Rattle.tables.specs.declared.rows.EventRow.{EventRow}
use Rattle.tables.specs.declared.rows.Automaton.{Automaton}
use Rattle.tables.specs.declared.rows.TransitionRow.{TransitionRow}
use Rattle.tables.specs.declared.rows.Guard.{Guard}
use Rattle.tables.specs.declared.rows.ActionRow.{ActionRow}
use Rattle.tables.specs.declared.rows.Node.{Node}
use Rattle.tables.specs.declared.rows.Sizes.{Sizes}
use Rattle.tables.specs.declared.rows.Tables.{Tables}

pub record Lent : Type 0 where
  pub values : List ValueRow
  pub events : List EventRow
  pub automata : List Automaton
  pub turns : List ℕ
  pub transitions : List TransitionRow
  pub guards : List Guard
  pub actions : List ActionRow
  pub nodes : List Node

abbrev pub lent : Tables → Lent
lent t = record {
  values = t.values.now;
  events = t.events.now;
  automata = t.automata.now;
  turns = t.turns.now;
  transitions = t.transitions.now;
  guards = t.guards.now;
  actions = t.actions.now;
  nodes = t.nodes.now;
}

abbrev pub sizes : Lent → Sizes
sizes t = record {
  values = length t.values;
  events = length t.events;
  automata = length t.automata;
  transitions = length t.transitions;
  guards = length t.guards;
  actions = length t.actions;
  nodes = length t.nodes;
}

-- the tables with other records of one kind, or another turn list
abbrev pub with_values : List ValueRow → Lent → Lent
with_values rows t = record t { values = rows }

abbrev pub with_events : List EventRow → Lent → Lent
with_events rows t = record t { events = rows }

abbrev pub with_automata : List Automaton → Lent → Lent
with_automata rows t = record t { automata = rows }

abbrev pub with_transitions : List TransitionRow → Lent → Lent
with_transitions rows t = record t { transitions = rows }

abbrev pub with_guards : List Guard → Lent → Lent
with_guards rows t = record t { guards = rows }

abbrev pub with_actions : List ActionRow → Lent → Lent
with_actions rows t = record t { actions = rows }

abbrev pub with_nodes : List Node → Lent → Lent
with_nodes rows t = record t { nodes = rows }

abbrev pub with_turns : List ℕ → Lent → Lent
with_turns turns t = record t { turns = turns }
