-- `arith::rem` meets its promise: the refusals first, then the remainder with the dividend's sign, fitted. Assumes nothing.
use Rattle.std.proofs.Common.{ℤ}
use Rattle.std.specs.Int.Signed.{rem_z}
use Rattle.format.specs.Answer.{exit-answered}
use Rattle.exact.specs.Signs.{via₂, size-some}
use Rattle.exact.specs.Settled.{fitted}
use Rattle.arith.proofs.rem.Goals as goal

pub returns-in_err-format : goal.returns-in_err-format
returns-in_err-format g c =
    exit-answered g.R.Raw.kind _ _ c.from_residual.result c.from_residual.ensures.1 c.in_err-format.ensures.err

pub remainder-rest-requires : goal.remainder-rest-requires
remainder-rest-requires g c =
    let d = c.in_ok-format.ensures.ok in
    let f = c.in_ok-format.format in
    size-some _ c.of-2.ensures d.some

pub returns : goal.returns
returns g c =
    fitted g.R.Raw.kind _ (via₂ (λ (x y : ℤ). rem_z x y) c.of.ensures c.of-2.ensures c.remainder-rest.ensures) c.in_ok-format.ensures.ok.opens c.fit.ensures
