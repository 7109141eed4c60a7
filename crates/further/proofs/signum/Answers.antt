-- `further::signum` meets its promise: the format's refusals, then the sign in units, fitted. Assumes nothing.
use Rattle.std.proofs.Common.{ℕ, ℤ, pos, ◌^◌, ◌*ℤ◌}
use Rattle.format.specs.Answer.{exit-answered}
use Rattle.units.specs.Stepped.{stepped}
use Rattle.results.specs.Meaning.{sign_of}
use Rattle.further.proofs.signum.Goals as goal

pub returns-in_err-format : goal.returns-in_err-format
returns-in_err-format g c =
    exit-answered g.R.Raw.kind _ _ c.from_residual.result c.from_residual.ensures.1 c.in_err-format.ensures.err

pub returns : goal.returns
returns g c =
    stepped g.R.Raw.kind _ (λ (w f : ℕ) (z : ℤ). sign_of z *ℤ pos (2 ^ f)) c.in_ok-format.ensures.ok c.of.ensures c.signum.ensures
    c.fit.ensures
