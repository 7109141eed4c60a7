-- `to_float::to` meets its contract: the refusals first, then the pattern of the magnitude with the sign. Assumes nothing.
use Rattle.format.specs.Answer.{exit-answered}
use Rattle.format.specs.Meaning.{unsigned_kind}
use Rattle.to_float.proofs.Encodes.{encoded-answer}
use Rattle.to_float.proofs.to.Goals as goal

pub returns-in_err-format : goal.returns-in_err-format
returns-in_err-format g c =
    exit-answered unsigned_kind _ _ c.from_residual.result c.from_residual.ensures.1 c.in_err-format.ensures.err

pub returns : goal.returns
returns g c =
    rw c.into.ensures (encoded-answer _ _ _ (g.R.Raw.kind.number_of c.args.raw) c.in_ok-format.ensures.ok c.is_below-neg.ensures c.magnitude-size.ensures
    c.encode.ensures)
