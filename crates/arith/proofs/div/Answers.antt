-- `arith::div` meets its promise: the refusals first, then the quotient toward zero, fitted. Assumes nothing.
use Rattle.std.proofs.Common.{ℤ, ◌^◌, ◌*ℤ◌, pos}
use Rattle.std.specs.Int.Signed.{quot_z}
use Rattle.format.specs.Answer.{exit-answered}
use Rattle.exact.specs.Refusals.{frac-fits}
use Rattle.exact.specs.Signs.{via₂, size-some}
use Rattle.exact.specs.Settled.{fitted}
use Rattle.arith.proofs.div.Goals as goal

pub returns-in_err-format : goal.returns-in_err-format
returns-in_err-format g c =
    exit-answered g.R.Raw.kind _ _ c.from_residual.result c.from_residual.ensures.1 c.in_err-format.ensures.err

pub quotient-quotient-requires : goal.quotient-quotient-requires
quotient-quotient-requires g c =
    let d = c.in_ok-format.ensures.ok in
    let f = c.in_ok-format.format in
    (size-some _ c.of-2.ensures d.some, frac-fits d.opens f.one_of_four f.within)

pub returns : goal.returns
returns g c =
    fitted g.R.Raw.kind _ (via₂ (λ (x y : ℤ). quot_z (x *ℤ pos (2 ^ c.args.frac)) y) c.of.ensures c.of-2.ensures c.quotient-quotient.ensures) c.in_ok-format.ensures.ok.opens c.fit.ensures
