-- The judgement is fine exactly on the allowed tables.
use Rattle.std.proofs.Common.{◌≡◌, ℕ, ◌≤◌, true, ◌&&◌, ltb, leb, List, length, is_ok, Ok, Err, Decides, refl, ap, arith}
use Rattle.std.proofs.lemmas.Bool.Decides.{nat_tests, Decides-ltb}
use Rattle.tables.specs.declared.rows.Automaton.{Automaton}
use Rattle.tables.specs.declared.rows.TransitionRow.{TransitionRow}
use Rattle.tables.specs.declared.rows.Sizes.{Sizes}
use Rattle.tables.specs.declared.refusal.Table.TheVariants.{Values, Events, Automata, Transitions, Guards, Actions, Nodes}
use Rattle.tables.specs.declared.refusal.LoadRefusal.TheVariants.{TooMany, NoInitialState, NoListedState, Turns}
use Rattle.tables.specs.Tables.{Lent, sizes}
use Rattle.tables.specs.Load.{Verdict, counts, listed_verdict, states_verdict, part, all_below, each_once, judged, accepts, value_limits, value_inside, event_limits, event_inside, automaton_limits, automaton_inside, transition_limits, transition_inside, guard_limits, guard_inside, action_limits, action_inside, node_limits, node_inside}
use Rattle.tables.specs.Allowed.{Allowed, CountsAllowed, GoesWithin, StatesExist, ValueAllowed, EventAllowed, AutomatonAllowed, TransitionAllowed, GuardAllowed, ActionAllowed, NodeAllowed}
use Rattle.tables.specs.Exact.{Exactly}
use Rattle.tables.proofs.Decide.{value_decides, event_decides, automaton_decides, transition_decides, guard_decides, action_decides, node_decides, goes_decides}
use Rattle.tables.proofs.Exact.{then_exactly, unless_exactly, each_exactly, records_exactly, exactly_like}
use Rattle.tables.proofs.Turns.{turns_decides}

decides_leb : (a b : ℕ) → Decides (leb a b) (a ≤ b)
decides_leb a b = ((λ e. grind (arith, nat_tests)), λ h. grind (arith, nat_tests))

pub counts_exactly : (n : Sizes) → Exactly (counts n) (CountsAllowed n)
counts_exactly n =
    exactly_like (counts n)
    (λ h. record { values = h.0; events = h.1.0; automata = h.1.1.0; transitions = h.1.1.1.0; guards = h.1.1.1.1.0; actions = h.1.1.1.1.1.0; nodes = h.1.1.1.1.1.1 })
    (λ a. (a.values, (a.events, (a.automata, (a.transitions, (a.guards, (a.actions, a.nodes)))))))
    (then_exactly _ _ (unless_exactly (leb n.values 128) (TooMany Values) (decides_leb n.values 128))
    (then_exactly _ _ (unless_exactly (leb n.events 64) (TooMany Events) (decides_leb n.events 64))
    (then_exactly _ _ (unless_exactly (leb n.automata 32) (TooMany Automata) (decides_leb n.automata 32))
    (then_exactly _ _ (unless_exactly (leb n.transitions 512) (TooMany Transitions) (decides_leb n.transitions 512))
    (then_exactly _ _ (unless_exactly (leb n.guards 1024) (TooMany Guards) (decides_leb n.guards 1024))
    (then_exactly _ _ (unless_exactly (leb n.actions 1024) (TooMany Actions) (decides_leb n.actions 1024))
    (unless_exactly (leb n.nodes 8192) (TooMany Nodes) (decides_leb n.nodes 8192))))))))

states_exactly : (ts : List TransitionRow) (k : ℕ) (automaton : Automaton) → Exactly (states_verdict ts k automaton) (StatesExist ts automaton)
states_exactly ts k automaton =
    exactly_like (states_verdict ts k automaton) (λ h. record { initial = h.0; listed = h.1 }) (λ s. (s.initial, s.listed))
    (then_exactly _ _ (unless_exactly (ltb automaton.initial automaton.states) (NoInitialState k) (Decides-ltb automaton.initial automaton.states))
    (each_exactly (listed_verdict k automaton.states) (GoesWithin automaton.states)
    (λ j t. unless_exactly (ltb t.source automaton.states && ltb t.destination automaton.states) (NoListedState k j) (goes_decides automaton.states t))
    automaton.transitions.first (part automaton.transitions ts)))

pub judged_exactly : (t : Lent) → Exactly (judged t) (Allowed t)
judged_exactly t =
    let n = sizes t in
    exactly_like (judged t)
    (λ h. record {
      counts = h.0;
      values = h.1.0;
      events = h.1.1.0;
      automata = h.1.1.1.0;
      transitions = h.1.1.1.1.0;
      guards = h.1.1.1.1.1.0;
      actions = h.1.1.1.1.1.1.0;
      nodes = h.1.1.1.1.1.1.1.0;
      states = h.1.1.1.1.1.1.1.1.0;
      turns = h.1.1.1.1.1.1.1.1.1;
    })
    (λ a. (a.counts, (a.values, (a.events, (a.automata, (a.transitions, (a.guards, (a.actions, (a.nodes, (a.states, a.turns))))))))))
    (then_exactly _ _ (counts_exactly n)
    (then_exactly _ _ (records_exactly Values value_limits (value_inside n) (ValueAllowed n) (value_decides n) t.values)
    (then_exactly _ _ (records_exactly Events event_limits (event_inside n) EventAllowed (event_decides n) t.events)
    (then_exactly _ _ (records_exactly Automata automaton_limits (automaton_inside n) (AutomatonAllowed n) (automaton_decides n) t.automata)
    (then_exactly _ _ (records_exactly Transitions transition_limits (transition_inside n) (TransitionAllowed n) (transition_decides n) t.transitions)
    (then_exactly _ _ (records_exactly Guards guard_limits (guard_inside n) (GuardAllowed n) (guard_decides n) t.guards)
    (then_exactly _ _ (records_exactly Actions action_limits (action_inside n) (ActionAllowed n) (action_decides n) t.actions)
    (then_exactly _ _ (records_exactly Nodes node_limits (node_inside n) (NodeAllowed n) (node_decides n) t.nodes)
    (then_exactly _ _ (each_exactly (states_verdict t.transitions) (StatesExist t.transitions) (states_exactly t.transitions) 0 t.automata)
    (unless_exactly (all_below (length t.automata) t.turns && each_once (length t.automata) t.turns) Turns (turns_decides (length t.automata) t.turns)))))))))))

-- acceptance as a test
fine_is : (v : Verdict) → is_ok v ≡ true → v ≡ Ok tt
fine_is (Ok u) e = refl
fine_is (Err x) e = grind arith

pub accepts_decides : (t : Lent) → Decides (accepts t) (Allowed t)
accepts_decides t = ((λ e. (judged_exactly t).0 (fine_is (judged t) e)), λ h. ap is_ok ((judged_exactly t).1 h))
