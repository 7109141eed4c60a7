-- `exact::remainder` meets its contract: the remainder of the magnitudes, with the sign of x. Assumes nothing.
use mathlib.Core.Path.{◌∙◌}
use Rattle.exact.specs.Signs.{remainder-sign}
use Rattle.exact.proofs.remainder.Goals as goal

pub returns : goal.returns
returns c =
    let a = c.args in
    c.new.ensures ∙ remainder-sign a.x.neg a.y.neg a.x.size a.y.size c.into.ensures
