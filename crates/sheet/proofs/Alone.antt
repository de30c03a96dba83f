-- No two contents are written as the same numbers: each record can be told from its row.
use Rattle.std.proofs.Common.{◌≡◌, ℕ, zero, suc, Bool, true, false, cond, eqb, List, [], ◌∷◌, map, sym, refl, ap, ◌∙◌, ap₂}
use Rattle.tables.specs.declared.ValueRow.{ValueRow}
use Rattle.tables.specs.declared.EventRow.{EventRow}
use Rattle.tables.specs.declared.TransitionRow.{TransitionRow}
use Rattle.tables.specs.declared.ActionRow.{ActionRow}
use Rattle.tables.specs.declared.Stretch.{Stretch}
use Rattle.tables.specs.Tables.{Lent}
use Rattle.tables.specs.declared.Value.{Value}
use Rattle.tables.specs.declared.ValueKind as ValueKinds
use Rattle.tables.specs.declared.EventKind as EventKinds
use Rattle.tables.specs.declared.Transition.{Transition}
use Rattle.tables.specs.declared.Action.{Action}
use Rattle.tables.specs.declared.Action.TheVariants.{Emit, Assign}
use Rattle.tables.specs.Records.{value_kind, value_owner, value_row, event_row, transition_row, action_row}
use Rattle.sheet.specs.Contents.{Contents, written}
use Rattle.sheet.specs.Sheet.{StandsFor}

-- The record of a row, whatever it holds.
abbrev value_kind_of : ℕ → ℕ → ValueKinds.ValueKind
value_kind_of zero owner = ValueKinds.TheVariants.Input
value_kind_of (suc zero) owner = ValueKinds.TheVariants.Output
value_kind_of (suc (suc zero)) owner = ValueKinds.TheVariants.Shared
value_kind_of (suc (suc (suc k))) owner = ValueKinds.TheVariants.Local owner

abbrev value_of : ValueRow → Value
value_of r = record { kind = value_kind_of r.kind r.owner; a = r.a; b = r.b }

abbrev event_kind_of : ℕ → EventKinds.EventKind
event_kind_of zero = EventKinds.TheVariants.Input
event_kind_of (suc zero) = EventKinds.TheVariants.Output
event_kind_of (suc (suc k)) = EventKinds.TheVariants.Shared

abbrev event_of : EventRow → EventKinds.EventKind
event_of r = event_kind_of r.kind

abbrev transition_of : TransitionRow → Transition
transition_of r = record { source = r.source; destination = r.destination; trigger = r.trigger; urgent = eqb r.urgent 1; guards = r.guards; actions = r.actions }

abbrev action_kind_of : ℕ → ℕ → Stretch → Action
action_kind_of zero target nodes = Emit target
action_kind_of (suc k) target nodes = Assign target nodes

abbrev action_of : ActionRow → Action
action_of r = action_kind_of r.kind r.target r.nodes

kind_back : (k : ValueKinds.ValueKind) → value_kind_of (value_kind k) (value_owner k) ≡ k
kind_back ValueKinds.TheVariants.Input = refl
kind_back ValueKinds.TheVariants.Output = refl
kind_back ValueKinds.TheVariants.Shared = refl
kind_back (ValueKinds.TheVariants.Local owner) = refl

value_back : (v : Value) → value_of (value_row v) ≡ v
value_back v = λ i. record { kind = kind_back v.kind i; a = v.a; b = v.b }

event_back : (e : EventKinds.EventKind) → event_of (event_row e) ≡ e
event_back EventKinds.TheVariants.Input = refl
event_back EventKinds.TheVariants.Output = refl
event_back EventKinds.TheVariants.Shared = refl

flag_back : (b : Bool) → eqb (cond b 1 0) 1 ≡ b
flag_back true = refl
flag_back false = refl

transition_back : (t : Transition) → transition_of (transition_row t) ≡ t
transition_back t = λ i. record { source = t.source; destination = t.destination; trigger = t.trigger; urgent = flag_back t.urgent i; guards = t.guards; actions = t.actions }

action_back : (a : Action) → action_of (action_row a) ≡ a
action_back (Emit event) = refl
action_back (Assign value nodes) = refl

map_back : {X Y : Type 0} (row : X → Y) (of : Y → X) → ((x : X) → of (row x) ≡ x) → (xs : List X) → map of (map row xs) ≡ xs
map_back row of back [] = refl
map_back row of back (x ∷ xs) = ap₂ ◌∷◌ (back x) (map_back row of back xs)

abbrev contents_from : Lent → Contents
contents_from t = record {
  values = map value_of t.values;
  events = map event_of t.events;
  automata = t.automata;
  turns = t.turns;
  transitions = map transition_of t.transitions;
  guards = t.guards;
  actions = map action_of t.actions;
  nodes = t.nodes;
}

contents_back : (c : Contents) → contents_from (written c) ≡ c
contents_back c = λ i. record {
  values = map_back value_row value_of value_back c.values i;
  events = map_back event_row event_of event_back c.events i;
  automata = c.automata;
  turns = c.turns;
  transitions = map_back transition_row transition_of transition_back c.transitions i;
  guards = c.guards;
  actions = map_back action_row action_of action_back c.actions i;
  nodes = c.nodes;
}

pub stands_for : (c : Contents) (t : Lent) → written c ≡ t → StandsFor c t
stands_for c t e = record { same = e; alone = λ d f. sym (contents_back d) ∙ ap contents_from (f ∙ sym e) ∙ contents_back c }
