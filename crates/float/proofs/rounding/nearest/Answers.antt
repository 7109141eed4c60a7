-- `float::rounding::nearest` meets its contract: what a shift and a mask leave can be doubled. Assumes nothing.
use Rattle.float.proofs.Scaling.{half_left, masked_below}
use Rattle.float.proofs.rounding.nearest.Goals as goal

pub by_rest-requires : goal.by_rest-requires
by_rest-requires c =
    let a = c.args in
    (half_left a.m a.k c.ranges.m.fits c.requires.0, masked_below a.m a.k c.requires.1 c.ones.ensures)
