use Rattle.std.proofs.Common.{◌≡◌, false, length, take, replicate, sym, ap, ◌∙◌}
use Rattle.std.proofs.lemmas.List.{take-replicate, length-replicate}
use Rattle.tables.proofs.judgement.each_once.Goals as goal

pub note_turns-requires : goal.note_turns-requires
note_turns-requires c =
    let e : take c.args.automata (replicate 32 false) ≡ replicate c.args.automata false = take-replicate c.args.automata 32 false c.requires in
    record { none_seen = e ∙ ap (λ n. replicate n false) (sym (ap length e ∙ length-replicate c.args.automata false)) }
