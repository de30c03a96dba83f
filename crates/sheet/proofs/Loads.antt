-- The ways in which a load ends.
use Rattle.std.proofs.Common.{◌≡◌, true, map, Ok, refl, ap, ◌∙◌, inl}
use Rattle.tables.specs.Tables.{Lent}
use Rattle.tables.specs.Load.{judged, accepts, value_limits, event_limits, transition_limits, action_limits}
use Rattle.tables.specs.Allowed.{Allowed}
use Rattle.tables.proofs.Judged.{accepts_decides}
use Rattle.tables.specs.Records.{TypedAs, value_row, event_row, transition_row, action_row}
use Rattle.sheet.specs.Contents.{Contents, written}
use Rattle.std.specs.List.{AllZip}
use Rattle.sheet.specs.Sheet.{Loads}
use Rattle.sheet.proofs.Typed.{written_as}

-- contents whose records stand for those of the tables
pub written_is : (t : Lent) (c : Contents)
    → map value_row c.values ≡ t.values → map event_row c.events ≡ t.events → c.automata ≡ t.automata → c.turns ≡ t.turns
    → map transition_row c.transitions ≡ t.transitions → c.guards ≡ t.guards → map action_row c.actions ≡ t.actions → c.nodes ≡ t.nodes
    → written c ≡ t
written_is t c p q r s u v w x =
    λ i. record { values = p i; events = q i; automata = r i; turns = s i; transitions = u i; guards = v i; actions = w i; nodes = x i }

-- contents whose records were made one by one from those of the tables
pub written_from : (t : Lent) (c : Contents)
    → AllZip (λ x y. TypedAs value_limits value_row x (Ok y)) t.values c.values → AllZip (λ x y. TypedAs event_limits event_row x (Ok y)) t.events c.events
    → c.automata ≡ t.automata → c.turns ≡ t.turns → AllZip (λ x y. TypedAs transition_limits transition_row x (Ok y)) t.transitions c.transitions
    → c.guards ≡ t.guards → AllZip (λ x y. TypedAs action_limits action_row x (Ok y)) t.actions c.actions → c.nodes ≡ t.nodes
    → written c ≡ t
written_from t c p q r s u v w x =
    written_is t c (written_as value_limits value_row t.values c.values p) (written_as event_limits event_row t.events c.events q) r s
    (written_as transition_limits transition_row t.transitions c.transitions u) v (written_as action_limits action_row t.actions c.actions w) x

-- what is written as allowed tables is accepted
pub accepted_as : (t u : Lent) → Allowed t → u ≡ t → accepts u ≡ true
accepted_as t u h e = ap accepts e ∙ (accepts_decides t).1 h

-- after a judgement that is fine
pub fine_loads : (t : Lent) → Ok tt ≡ judged t → Allowed t → Loads t (Ok tt)
fine_loads t was h = record { answered = rw (← was) (inl refl); decided = rw (← was) tt; accepted = h }
