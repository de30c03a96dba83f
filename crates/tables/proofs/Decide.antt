-- The tests on records say what is allowed.
use Rattle.std.proofs.Common.{◌≡◌, ℕ, zero, suc, cond, not, ◌&&◌, ◌||◌, eqb, ltb, ℤ, pos, negsuc, Decides, arith}
use Rattle.std.proofs.lemmas.Bool.Decides.{nat_tests}
use Rattle.tables.specs.declared.rows.Stretch.{Stretch}
use Rattle.tables.specs.declared.rows.ValueRow.{ValueRow}
use Rattle.tables.specs.declared.rows.EventRow.{EventRow}
use Rattle.tables.specs.declared.rows.Automaton.{Automaton}
use Rattle.tables.specs.declared.rows.TransitionRow.{TransitionRow}
use Rattle.tables.specs.declared.rows.Guard.{Guard}
use Rattle.tables.specs.declared.rows.ActionRow.{ActionRow}
use Rattle.tables.specs.declared.rows.Node.{Node}
use Rattle.tables.specs.declared.rows.Sizes.{Sizes}
use Rattle.tables.specs.Load.{names, ends_in, expression, value_limits, value_inside, event_limits, event_inside, automaton_limits, automaton_inside, transition_limits, transition_inside, guard_limits, guard_inside, action_limits, action_inside, node_limits, node_inside}
use Rattle.tables.specs.Allowed.{Expression, Names, Owned, Acts, ValueAllowed, EventAllowed, AutomatonAllowed, TransitionAllowed, GuardAllowed, ActionAllowed, NodeAllowed, GoesWithin}

owned : (automata kind owner : ℕ) → Decides ((ltb kind 4 && (eqb kind 3 || eqb owner 0)) && (not (eqb kind 3) || ltb owner automata)) (Owned automata kind owner)
owned automata zero owner = ((λ e. grind (arith, nat_tests)), λ h. grind (arith, nat_tests))
owned automata (suc zero) owner = ((λ e. grind (arith, nat_tests)), λ h. grind (arith, nat_tests))
owned automata (suc (suc zero)) owner = ((λ e. grind (arith, nat_tests)), λ h. grind (arith, nat_tests))
owned automata (suc (suc (suc zero))) owner = ((λ e. grind (arith, nat_tests)), λ h. grind (arith, nat_tests))
owned automata (suc (suc (suc (suc k)))) owner = ((λ e. grind (arith, nat_tests)), λ h. absurd h)

pub value_decides : (n : Sizes) (r : ValueRow) → Decides (value_limits r && value_inside n r) (ValueAllowed n r)
value_decides n r = owned n.automata r.kind r.owner

pub event_decides : (n : Sizes) (r : EventRow) → Decides (event_limits r && event_inside n r) (EventAllowed r)
event_decides n r = ((λ e. grind (arith, nat_tests)), λ h. grind (arith, nat_tests))

pub automaton_decides : (n : Sizes) (r : Automaton) → Decides (automaton_limits r && automaton_inside n r) (AutomatonAllowed n r)
automaton_decides n r =
    ((λ e. record { some = grind (arith, nat_tests); few = grind (arith, nat_tests); actions = grind (arith, nat_tests); transitions = grind (arith, nat_tests) }), λ h. grind (arith, nat_tests))

pub transition_decides : (n : Sizes) (r : TransitionRow) → Decides (transition_limits r && transition_inside n r) (TransitionAllowed n r)
transition_decides n r =
    ((λ e. record { source = grind (arith, nat_tests); destination = grind (arith, nat_tests); urgent = grind (arith, nat_tests); trigger = grind (arith, nat_tests); guards = grind (arith, nat_tests); actions = grind (arith, nat_tests) }), λ h. grind (arith, nat_tests))

expression_decides : (n : ℕ) (s : Stretch) → Decides (expression s && ends_in s n) (Expression n s)
expression_decides n s = ((λ e. record { some = grind (arith, nat_tests); few = grind (arith, nat_tests); inside = grind (arith, nat_tests) }), λ h. grind (arith, nat_tests))

pub guard_decides : (n : Sizes) (r : Guard) → Decides (guard_limits r && guard_inside n r) (GuardAllowed n r)
guard_decides n r = expression_decides n.nodes r.nodes

acts : (n : Sizes) (kind target : ℕ) (s : Stretch)
    → Decides (cond (eqb kind 0) (eqb s.first 0 && eqb s.count 0) (eqb kind 1 && expression s) && cond (eqb kind 0) (ltb target n.events) (ltb target n.values && ends_in s n.nodes))
    (Acts n kind target s)
acts n zero target s = ((λ e. (grind (arith, nat_tests), grind (arith, nat_tests), grind (arith, nat_tests))), λ h. grind (arith, nat_tests))
acts n (suc zero) target s =
    ((λ e. (grind (arith, nat_tests), record { some = grind (arith, nat_tests); few = grind (arith, nat_tests); inside = grind (arith, nat_tests) })), λ h. grind (arith, nat_tests))
acts n (suc (suc k)) target s = ((λ e. grind (arith, nat_tests)), λ h. absurd h)

pub action_decides : (n : Sizes) (r : ActionRow) → Decides (action_limits r && action_inside n r) (ActionAllowed n r)
action_decides n r = acts n r.kind r.target r.nodes

reads : (n code : ℕ) (z : ℤ) → Decides (not (eqb code 0) || names z n) (code ≡ 0 → Names n z)
reads n code (pos k) = ((λ e h. grind (arith, nat_tests)), λ h. grind (arith, nat_tests))
reads n code (negsuc k) = ((λ e h. grind (arith, nat_tests)), λ h. grind (arith, nat_tests))

pub node_decides : (n : Sizes) (r : Node) → Decides (node_limits r && node_inside n r) (NodeAllowed n r)
node_decides n r = reads n.values r.code r.argument

pub goes_decides : (states : ℕ) (t : TransitionRow) → Decides (ltb t.source states && ltb t.destination states) (GoesWithin states t)
goes_decides states t = ((λ e. (grind (arith, nat_tests), grind (arith, nat_tests))), λ h. grind (arith, nat_tests))
