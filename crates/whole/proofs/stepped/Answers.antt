-- `whole::stepped` meets its contract: the format's refusals, then what the step means, fitted. Assumes nothing.
use Rattle.format.specs.Answer.{exit-answered}
use Rattle.units.specs.Stepped.{stepped}
use Rattle.whole.proofs.stepped.Goals as goal

pub returns-in_err-format : goal.returns-in_err-format
returns-in_err-format g c op means =
    exit-answered g.R.Raw.kind _ _ c.from_residual.result c.from_residual.ensures.1 c.in_err-format.ensures.err

pub returns : goal.returns
returns g c op means = stepped g.R.Raw.kind _ op c.in_ok-format.ensures.ok c.of.ensures (means _ _ _ c.step.ensures) c.fit.ensures
