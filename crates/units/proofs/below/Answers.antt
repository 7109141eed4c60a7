-- `units::below` meets its contract, by the sign. Assumes nothing.
use Rattle.std.proofs.Common.{refl}
use Rattle.exact.specs.Signs.{floor-above}
use Rattle.units.proofs.below.Goals as goal

pub returns-else-x : goal.returns-else-x
returns-else-x c = rw c.if-x.false (floor-above _ _ refl c.quotient-size.ensures)
