-- Every loaded sheet is whole: its tables are written as accepted ones.
use Rattle.std.proofs.Common.{◌≡◌, ℕ, ◌≤◌, List, map, length, take, drop, ap, ◌∙◌, subst}
use Rattle.std.specs.List.{All}
use Rattle.std.proofs.lemmas.List.Elements.{AllWithin-from_all}
use Rattle.std.proofs.lemmas.List.{length-map, get_or-map, take-map, drop-map}
use Rattle.tables.specs.declared.Automaton.{Automaton}
use Rattle.tables.specs.declared.Stretch.{Stretch}
use Rattle.tables.specs.declared.Sizes.{Sizes}
use Rattle.tables.specs.declared.Transition.{Transition}
use Rattle.sheet.specs.declared.loaded.Sheet.{Sheet}
use Rattle.tables.specs.Tables as tables
use Rattle.tables.specs.Load.{part}
use Rattle.tables.specs.Allowed.{Allowed, ValueAllowed, AutomatonAllowed, TransitionAllowed, GuardAllowed, ActionAllowed, NodeAllowed, CountsAllowed, StatesExist, GoesWithin, EachOnce}
use Rattle.tables.specs.Records.{value_row, event_row, transition_row, action_row}
use Rattle.sheet.specs.Contents.{Contents, sizes, written}
use Rattle.sheet.specs.Sheet.{contents}
use Rattle.sheet.specs.Whole.{Whole, AutomatonWhole, Handed, HandedTurns}
use Rattle.tables.proofs.Judged.{accepts_decides}

from_map : {X Y : Type 0} (P : Y → Type 0) (f : X → Y) (xs : List X) → All P (map f xs) → All (λ x. P (f x)) xs
from_map P f xs h k d lt = subst P (get_or-map f xs k d (f d) lt) (h k (f d) (rw (length-map xs f) lt))

-- a table has as many records as its lent table
same_sizes : (c : Contents) → tables.sizes (written c) ≡ sizes c
same_sizes c = λ i. record {
  values = length-map c.values value_row i;
  events = length-map c.events event_row i;
  automata = length c.automata;
  transitions = length-map c.transitions transition_row i;
  guards = length c.guards;
  actions = length-map c.actions action_row i;
  nodes = length c.nodes;
}

part_map : (s : Stretch) (ts : List Transition) → part s (map transition_row ts) ≡ map transition_row (part s ts)
part_map s ts = ap (take s.count) (drop-map transition_row s.first ts) ∙ take-map transition_row s.count (drop s.first ts)

automaton_whole : (c : Contents) (automaton : Automaton) → AutomatonAllowed (sizes c) automaton → StatesExist (map transition_row c.transitions) automaton → AutomatonWhole c automaton
automaton_whole c automaton h s = record {
  allowed = h;
  initial = s.initial;
  listed =
      from_map (GoesWithin automaton.states) transition_row (part automaton.transitions c.transitions)
      (subst (All (GoesWithin automaton.states)) (part_map automaton.transitions c.transitions) s.listed);
}

whole_allowed : (c : Contents) → Allowed (written c) → Whole c
whole_allowed c h =
    let e = same_sizes c in
    record {
      counts = subst (λ (n : Sizes). CountsAllowed n) e h.counts;
      values = from_map (ValueAllowed (sizes c)) value_row c.values (subst (λ (n : Sizes). All (ValueAllowed n) (map value_row c.values)) e h.values);
      automata =
          λ k d lt. automaton_whole c _ (subst (λ (n : Sizes). All (AutomatonAllowed n) c.automata) e h.automata k d lt) (h.states k d lt);
      turns = h.turns;
      transitions =
          from_map (TransitionAllowed (sizes c)) transition_row c.transitions (subst (λ (n : Sizes). All (TransitionAllowed n) (map transition_row c.transitions)) e h.transitions);
      guards = subst (λ (n : Sizes). All (GuardAllowed n) c.guards) e h.guards;
      actions = from_map (ActionAllowed (sizes c)) action_row c.actions (subst (λ (n : Sizes). All (ActionAllowed n) (map action_row c.actions)) e h.actions);
      nodes = subst (λ (n : Sizes). All (NodeAllowed n) c.nodes) e h.nodes;
    }

pub whole : (s : Sheet) → Whole (contents s)
whole s = whole_allowed (contents s) ((accepts_decides (written (contents s))).0 s.allowed)

pub handed : {X : Type 0} (P : X → Type 0) (most : ℕ) (table r : List X) → length table ≤ most → All P table → r ≡ table → Handed P most table r
handed P most table r few all e = record {
  value = e;
  few = rw e few;
  each = rw e (AllWithin-from_all P table all);
}

pub handed_turns : (n : ℕ) (table r : List ℕ) → EachOnce n table → r ≡ table → HandedTurns n table r
handed_turns n table r once e = record { value = e; once = rw e once }
