-- `further::div_euclid` meets its promise: the refusals first, then the Euclidean quotient in units, fitted. Assumes nothing.
use Rattle.std.proofs.Common.{ℕ, ℤ, pos, ◌^◌, ◌*ℤ◌}
use Rattle.format.specs.Answer.{exit-answered}
use Rattle.exact.specs.Signs.{via₂, size-some}
use Rattle.units.specs.Stepped.{opened}
use Rattle.results.specs.Meaning.{quot_euclid}
use Rattle.further.proofs.div_euclid.Goals as goal

pub returns-in_err-format : goal.returns-in_err-format
returns-in_err-format g c =
    exit-answered g.R.Raw.kind _ _ c.from_residual.result c.from_residual.ensures.1 c.in_err-format.ensures.err

pub div_euclid-quotient-requires : goal.div_euclid-quotient-requires
div_euclid-quotient-requires g c = size-some _ c.of-2.ensures c.in_ok-format.ensures.ok.some

pub returns : goal.returns
returns g c =
    let kind = g.R.Raw.kind in
    let steps = c.in_ok-format.format.frac in
    let quotient = via₂ (λ (x y : ℤ). quot_euclid x y *ℤ pos (2 ^ steps)) c.of.ensures c.of-2.ensures c.div_euclid-quotient.ensures in
    opened kind _ (λ (w f : ℕ). quot_euclid (kind.number_of c.args.a) (kind.number_of c.args.b) *ℤ pos (2 ^ f))
    c.in_ok-format.ensures.ok.opens quotient c.fit.ensures
