-- `results::abs` meets its contract: the magnitude, not negative. Assumes nothing.
use Rattle.std.proofs.Common.{refl, ◌∙◌}
use Rattle.results.specs.Results.{size_of}
use Rattle.results.proofs.abs.Goals as goal

pub returns : goal.returns
returns c = c.into.ensures ∙ size_of c.args.x.neg c.args.x.size refl
