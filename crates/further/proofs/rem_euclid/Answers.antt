-- `further::rem_euclid` meets its promise: the refusals first, then the Euclidean remainder, fitted. Assumes nothing.
use Rattle.format.specs.Answer.{exit-answered}
use Rattle.exact.specs.Signs.{via₂, size-some}
use Rattle.exact.specs.Settled.{fitted}
use Rattle.results.specs.Meaning.{rem_euclid}
use Rattle.further.proofs.rem_euclid.Goals as goal

pub returns-in_err-format : goal.returns-in_err-format
returns-in_err-format g c =
    exit-answered g.R.Raw.kind _ _ c.from_residual.result c.from_residual.ensures.1 c.in_err-format.ensures.err

pub rem_euclid-rest-requires : goal.rem_euclid-rest-requires
rem_euclid-rest-requires g c = size-some _ c.of-2.ensures c.in_ok-format.ensures.ok.some

pub returns : goal.returns
returns g c =
    fitted g.R.Raw.kind _ (via₂ rem_euclid c.of.ensures c.of-2.ensures c.rem_euclid-rest.ensures) c.in_ok-format.ensures.ok.opens
    c.fit.ensures
