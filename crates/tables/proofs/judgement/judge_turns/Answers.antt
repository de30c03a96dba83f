use Rattle.std.proofs.Common.{◌∙◌}
use Rattle.tables.proofs.Turns.{turns_judged}
use Rattle.tables.proofs.judgement.judge_turns.Goals as goal

pub returns : goal.returns
returns c = c.require.ensures ∙ turns_judged c.args.automata c.args.turns.now c.each_once.result c.each_once.ensures
