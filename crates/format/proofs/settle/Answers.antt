-- `format::settle` meets its promise: the format's refusal first, then the manner. Assumes nothing.
use Rattle.std.proofs.Common.{◌∙◌}
use Rattle.std.proofs.Math.Path.{ap}
use Rattle.format.specs.Meaning.{answered, settle, exact}
use Rattle.format.specs.Answer.{exit-answered, pass-answered}
use Rattle.format.proofs.settle.Goals as goal

pub returns-in_err-format : goal.returns-in_err-format
returns-in_err-format g c =
    exit-answered g.R.Raw.kind _ _ c.from_residual.result c.from_residual.ensures.1 c.in_err-format.ensures.err

pub returns : goal.returns
returns g c =
    let k = g.R.Raw.kind in
    let x = c.args.x in
    let o = c.in_ok-format.ensures.ok in
    pass-answered k _ _ o.free
    (c.fit.ensures ∙ ap (λ (w : _). answered k (settle c.args.manner k.sign w (exact x.neg x.high x.low))) o.width_is)
