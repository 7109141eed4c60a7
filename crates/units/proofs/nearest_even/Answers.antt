-- `units::nearest_even` meets its contract: the quotient below half, one more above it, and at half what makes it even. Assumes nothing.
use Rattle.units.specs.Units.{even-below, even-above, even-tie}
use Rattle.units.proofs.nearest_even.Goals as goal

pub returns-in-Less : goal.returns-in-Less
returns-in-Less c = even-below _ _ c.quotient-q.ensures c.in-Less.ensures

pub returns-in-Equal : goal.returns-in-Equal
returns-in-Equal c = even-tie _ _ c.quotient-q.ensures c.in-Equal.ensures

pub returns-in-Greater : goal.returns-in-Greater
returns-in-Greater c = even-above _ _ c.quotient-q.ensures c.in-Greater.ensures
