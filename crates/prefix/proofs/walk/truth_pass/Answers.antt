use Rattle.std.proofs.Common.{◌≡◌, ◌∙◌}
use Rattle.prefix.specs.Parse.{parse_truth}
use Rattle.prefix.specs.Pass.{of_truth, truth_pass}
use Rattle.prefix.proofs.Shape.{gives_truth}
use Rattle.prefix.proofs.Whole.{none_whole, some_whole}
use Rattle.prefix.proofs.walk.truth_pass.Goals as goal

pub returns-in_err-found : goal.returns-in_err-found
returns-in_err-found g c =
    let e : c.from_residual.result ≡ truth_pass g.P.Pass.grammar g.P.Pass.algebra c.args.nodes.now c.args.row.now = c.from_residual.ensures ∙ none_whole g.P.Pass.grammar (of_truth g.P.Pass.algebra) parse_truth _ _ c.in_err-found.ensures in
    record { answer = e; shape = gives_truth g.P.Pass.grammar g.P.Pass.algebra _ _ _ e }

pub returns : goal.returns
returns g c =
    let e : c.whole.result ≡ truth_pass g.P.Pass.grammar g.P.Pass.algebra c.args.nodes.now c.args.row.now = c.whole.ensures ∙ some_whole g.P.Pass.grammar (of_truth g.P.Pass.algebra) parse_truth _ _ _ c.in_ok-found.ensures in
    record { answer = e; shape = gives_truth g.P.Pass.grammar g.P.Pass.algebra _ _ _ e }
