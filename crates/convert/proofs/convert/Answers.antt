-- `convert::convert` meets its promise: the refusals first, then the steps, fitted. Assumes nothing.
use Rattle.std.proofs.Common.{ap, ◌∙◌, ℕ}
use Rattle.format.specs.Answer.{exit-answered}
use Rattle.exact.specs.Settled.{fitted}
use Rattle.convert.specs.Meaning.{steps_of}
use Rattle.convert.proofs.convert.Goals as goal

pub returns-in_err-format : goal.returns-in_err-format
returns-in_err-format g c =
    exit-answered g.T.Raw.kind _ _ c.from_residual.result c.from_residual.ensures.1 c.in_err-format.ensures.err

pub returns : goal.returns
returns g c =
    let x = g.S.Raw.kind.number_of c.args.raw in
    let o = c.in_ok-format.ensures.ok in
    fitted g.T.Raw.kind _ (c.steps-steps.ensures ∙ ap (λ (n : ℕ). steps_of c.args.from_frac n x) o.frac_is) o c.fit.ensures
