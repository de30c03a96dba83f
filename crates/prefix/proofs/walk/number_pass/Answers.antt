use Rattle.std.proofs.Common.{◌≡◌, ◌∙◌}
use Rattle.prefix.specs.Parse.{parse_number}
use Rattle.prefix.specs.Pass.{of_number, number_pass}
use Rattle.prefix.proofs.Shape.{gives_number}
use Rattle.prefix.proofs.Whole.{none_whole, some_whole}
use Rattle.prefix.proofs.walk.number_pass.Goals as goal

pub returns-in_err-found : goal.returns-in_err-found
returns-in_err-found g c =
    let e : c.from_residual.result ≡ number_pass g.P.Pass.grammar g.P.Pass.algebra c.args.nodes.now c.args.row.now = c.from_residual.ensures ∙ none_whole g.P.Pass.grammar (of_number g.P.Pass.algebra) parse_number _ _ c.in_err-found.ensures in
    record { answer = e; shape = gives_number g.P.Pass.grammar g.P.Pass.algebra _ _ _ e }

pub returns : goal.returns
returns g c =
    let e : c.whole.result ≡ number_pass g.P.Pass.grammar g.P.Pass.algebra c.args.nodes.now c.args.row.now = c.whole.ensures ∙ some_whole g.P.Pass.grammar (of_number g.P.Pass.algebra) parse_number _ _ _ c.in_ok-found.ensures in
    record { answer = e; shape = gives_number g.P.Pass.grammar g.P.Pass.algebra _ _ _ e }
