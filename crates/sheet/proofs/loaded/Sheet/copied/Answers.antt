use Rattle.tables.specs.Tables.{lent}
use Rattle.sheet.proofs.Loads.{accepted_as, written_from}
use Rattle.sheet.proofs.loaded.Sheet.copied.Goals as goal

pub invariant_of-result : goal.invariant_of-result
invariant_of-result c = record {
  allowed =
      accepted_as (lent c.args.tables.now) _ c.requires
      (written_from (lent c.args.tables.now) _ c.in_ok-values.ensures c.in_ok-events.ensures c.in_ok-automata.ensures.items c.in_ok-turns.ensures.items
      c.in_ok-transitions.ensures c.in_ok-guards.ensures.items c.in_ok-actions.ensures c.in_ok-nodes.ensures.items);
}

pub returns : goal.returns
returns c =
    written_from (lent c.args.tables.now) _ c.in_ok-values.ensures c.in_ok-events.ensures c.in_ok-automata.ensures.items c.in_ok-turns.ensures.items
    c.in_ok-transitions.ensures c.in_ok-guards.ensures.items c.in_ok-actions.ensures c.in_ok-nodes.ensures.items
