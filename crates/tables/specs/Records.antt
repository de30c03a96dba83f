-- The records of a loaded sheet, and the whole numbers that they stand for.
use Rattle.std.specs.Prelude.{◌≡◌, ℕ, Bool, false, Ok, Err, Result, IsTrue, if◌then◌else◌}
use Rattle.tables.specs.declared.rows.ValueRow.{ValueRow}
use Rattle.tables.specs.declared.rows.EventRow.{EventRow}
use Rattle.tables.specs.declared.rows.TransitionRow.{TransitionRow}
use Rattle.tables.specs.declared.rows.ActionRow.{ActionRow}
use Rattle.tables.specs.declared.records.Value.{Value}
use Rattle.tables.specs.declared.records.ValueKind as ValueKinds
use Rattle.tables.specs.declared.records.EventKind as EventKinds
use Rattle.tables.specs.declared.records.Transition.{Transition}
use Rattle.tables.specs.declared.records.Action.{Action}
use Rattle.tables.specs.declared.records.Action.TheVariants.{Emit, Assign}
use Rattle.tables.specs.declared.records.OutOfLimits.{OutOfLimits}

-- Each record as the whole numbers that it was lent as.
abbrev pub value_kind : ValueKinds.ValueKind → ℕ
value_kind ValueKinds.TheVariants.Input = 0
value_kind ValueKinds.TheVariants.Output = 1
value_kind ValueKinds.TheVariants.Shared = 2
value_kind (ValueKinds.TheVariants.Local owner) = 3

abbrev pub value_owner : ValueKinds.ValueKind → ℕ
value_owner ValueKinds.TheVariants.Input = 0
value_owner ValueKinds.TheVariants.Output = 0
value_owner ValueKinds.TheVariants.Shared = 0
value_owner (ValueKinds.TheVariants.Local owner) = owner

abbrev pub value_row : Value → ValueRow
value_row v = record { kind = value_kind v.kind; owner = value_owner v.kind; a = v.a; b = v.b }

abbrev pub event_row : EventKinds.EventKind → EventRow
event_row EventKinds.TheVariants.Input = record { kind = 0 }
event_row EventKinds.TheVariants.Output = record { kind = 1 }
event_row EventKinds.TheVariants.Shared = record { kind = 2 }

abbrev pub transition_row : Transition → TransitionRow
transition_row t = record {
  source = t.source;
  destination = t.destination;
  trigger = t.trigger;
  urgent = if t.urgent then 1 else 0;
  guards = t.guards;
  actions = t.actions;
}

abbrev pub action_row : Action → ActionRow
action_row (Emit event) = record { kind = 0; target = event; nodes = record { first = 0; count = 0 } }
action_row (Assign value nodes) = record { kind = 1; target = value; nodes = nodes }

-- r is the record that a lent one stands for, which it does just where its fields keep their limits
abbrev pub TypedAs : {Lent Record : Type 0} → (Lent → Bool) → (Record → Lent) → Lent → Result Record OutOfLimits → Type 0
TypedAs limits row x (Ok r) = IsTrue (limits x) × (row r ≡ x)
TypedAs limits row x (Err _) = limits x ≡ false
