-- What load answers on any tables: judged in order, the first fault decides.
use Rattle.std.specs.Prelude.{ℕ, zero, suc, ◌+◌, Bool, true, false, if◌then◌else◌, not, ◌&&◌, ◌||◌, List, [], ◌∷◌, length, take, drop, ℤ, pos, negsuc, is_ok, Ok, Err, Result, ◌==◌, nat_le, nat_lt}
use Rattle.tables.specs.declared.rows.Stretch.{Stretch}
use Rattle.tables.specs.declared.rows.ValueRow.{ValueRow}
use Rattle.tables.specs.declared.rows.EventRow.{EventRow}
use Rattle.tables.specs.declared.rows.Automaton.{Automaton}
use Rattle.tables.specs.declared.rows.TransitionRow.{TransitionRow}
use Rattle.tables.specs.declared.rows.Guard.{Guard}
use Rattle.tables.specs.declared.rows.ActionRow.{ActionRow}
use Rattle.tables.specs.declared.rows.Node.{Node}
use Rattle.tables.specs.declared.rows.Sizes.{Sizes}
use Rattle.tables.specs.declared.refusal.Table.{Table}
use Rattle.tables.specs.declared.refusal.Table.TheVariants.{Values, Events, Automata, Transitions, Guards, Actions, Nodes}
use Rattle.tables.specs.declared.refusal.LoadRefusal.{LoadRefusal}
use Rattle.tables.specs.declared.refusal.LoadRefusal.TheVariants.{TooMany, Limit, Outside, NoInitialState, NoListedState, Turns}
use Rattle.tables.specs.Tables.{Lent, sizes}

-- a judgement: fine, or the refusal
abbrev pub Verdict : Type 0
Verdict = Result (Unit {0}) LoadRefusal

infixr 20 ◌then◌
-- one judgement after another: the first refusal stands
abbrev pub ◌then◌ : Verdict → Verdict → Verdict
Ok _ then s = s
Err e then s = Err e

-- each element with its number, in order from the number k on
abbrev pub each : {X : Type 0} → (ℕ → X → Verdict) → ℕ → List X → Verdict
each f k [] = Ok tt
each f k (x ∷ xs) = f k x then each f (suc k) xs

-- fine where the test is met
abbrev pub unless : Bool → LoadRefusal → Verdict
unless true e = Ok tt
unless false e = Err e

-- the number names one of n things
abbrev pub names : ℤ → ℕ → Bool
names (pos k) n = nat_lt k n
names (negsuc k) n = false

-- the stretch ends inside a table of n records
abbrev pub ends_in : Stretch → ℕ → Bool
ends_in s n = nat_le (s.first + s.count) n

-- an expression has 1 to 32 nodes
abbrev pub expression : Stretch → Bool
expression s = nat_lt 0 s.count && nat_le s.count 32

-- The fields of each record: first its limits, then its indices and stretches.
abbrev pub value_limits : ValueRow → Bool
value_limits r = nat_lt r.kind 4 && (r.kind == 3 || r.owner == 0)

abbrev pub value_inside : Sizes → ValueRow → Bool
value_inside n r = not (r.kind == 3) || nat_lt r.owner n.automata

abbrev pub event_limits : EventRow → Bool
event_limits r = nat_lt r.kind 3

abbrev pub event_inside : Sizes → EventRow → Bool
event_inside n r = true

abbrev pub automaton_limits : Automaton → Bool
automaton_limits r = nat_lt 0 r.states && nat_le r.states 32

abbrev pub automaton_inside : Sizes → Automaton → Bool
automaton_inside n r = ends_in r.actions n.actions && ends_in r.transitions n.transitions

abbrev pub transition_limits : TransitionRow → Bool
transition_limits r = nat_lt r.source 32 && (nat_lt r.destination 32 && nat_lt r.urgent 2)

abbrev pub transition_inside : Sizes → TransitionRow → Bool
transition_inside n r = nat_lt r.trigger n.events && (ends_in r.guards n.guards && ends_in r.actions n.actions)

abbrev pub guard_limits : Guard → Bool
guard_limits r = expression r.nodes

abbrev pub guard_inside : Sizes → Guard → Bool
guard_inside n r = ends_in r.nodes n.nodes

abbrev pub action_limits : ActionRow → Bool
action_limits r = if r.kind == 0 then r.nodes.first == 0 && r.nodes.count == 0 else (r.kind == 1 && expression r.nodes)

abbrev pub action_inside : Sizes → ActionRow → Bool
action_inside n r = if r.kind == 0 then nat_lt r.target n.events else (nat_lt r.target n.values && ends_in r.nodes n.nodes)

abbrev pub node_limits : Node → Bool
node_limits r = true

abbrev pub node_inside : Sizes → Node → Bool
node_inside n r = not (r.code == 0) || names r.argument n.values

-- a record of the table t that has the number k
abbrev pub record_verdict : Table → Bool → Bool → ℕ → Verdict
record_verdict t limits inside k = unless limits (Limit t k) then unless inside (Outside t k)

abbrev pub records : {X : Type 0} → Table → (X → Bool) → (X → Bool) → List X → Verdict
records t limits inside xs = each (λ k x. record_verdict t (limits x) (inside x) k) 0 xs

abbrev pub counts : Sizes → Verdict
counts n =
    unless (nat_le n.values 128) (TooMany Values)
    then unless (nat_le n.events 64) (TooMany Events)
    then unless (nat_le n.automata 32) (TooMany Automata)
    then unless (nat_le n.transitions 512) (TooMany Transitions)
    then unless (nat_le n.guards 1024) (TooMany Guards)
    then unless (nat_le n.actions 1024) (TooMany Actions)
    then unless (nat_le n.nodes 8192) (TooMany Nodes)

-- the records of a stretch
abbrev pub part : {X : Type 0} → Stretch → List X → List X
part s xs = take s.count (drop s.first xs)

-- a transition that an automaton of so many states lists
abbrev pub listed_verdict : ℕ → ℕ → ℕ → TransitionRow → Verdict
listed_verdict a states k t = unless (nat_lt t.source states && nat_lt t.destination states) (NoListedState a k)

abbrev pub states_verdict : List TransitionRow → ℕ → Automaton → Verdict
states_verdict ts a r =
    unless (nat_lt r.initial r.states) (NoInitialState a)
    then each (listed_verdict a r.states) r.transitions.first (part r.transitions ts)

-- how often a number stands in a list
abbrev pub times : ℕ → List ℕ → ℕ
times a [] = 0
times a (x ∷ xs) = (if a == x then 1 else 0) + times a xs

abbrev pub all_below : ℕ → List ℕ → Bool
all_below n [] = true
all_below n (x ∷ xs) = nat_lt x n && all_below n xs

-- each of the numbers below k stands in the list once
abbrev pub each_once : ℕ → List ℕ → Bool
each_once zero xs = true
each_once (suc k) xs = times k xs == 1 && each_once k xs

abbrev pub turns_verdict : ℕ → List ℕ → Verdict
turns_verdict n turns = unless (all_below n turns && each_once n turns) Turns

abbrev pub judged : Lent → Verdict
judged t =
    counts (sizes t)
    then records Values value_limits (value_inside (sizes t)) t.values
    then records Events event_limits (event_inside (sizes t)) t.events
    then records Automata automaton_limits (automaton_inside (sizes t)) t.automata
    then records Transitions transition_limits (transition_inside (sizes t)) t.transitions
    then records Guards guard_limits (guard_inside (sizes t)) t.guards
    then records Actions action_limits (action_inside (sizes t)) t.actions
    then records Nodes node_limits (node_inside (sizes t)) t.nodes
    then each (states_verdict t.transitions) 0 t.automata
    then turns_verdict (length t.automata) t.turns

abbrev pub accepts : Lent → Bool
accepts t = is_ok (judged t)
