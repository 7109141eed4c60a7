-- `exact::negated` meets its contract: the other sign. Assumes nothing.
use Rattle.exact.specs.Signs.{negated}
use Rattle.exact.proofs.negated.Goals as goal

pub returns : goal.returns
returns c = negated c.args.x.neg c.args.x.size
