-- `units::above` meets its contract: 0 stays, and else down is one more in magnitude. Assumes nothing.
use Rattle.std.proofs.Common.{refl, arith, ◌^◌}
use Rattle.exact.specs.Signs.{floor-below}
use Rattle.units.specs.Units.{above_zero}
use Rattle.units.proofs.above.Goals as goal

pub returns-then-size-eq0 : goal.returns-then-size-eq0
returns-then-size-eq0 c = search above_zero

pub returns-else-size-eq0 : goal.returns-else-size-eq0
returns-else-size-eq0 c = floor-below c.args.size (2 ^ c.args.frac) (omega arith) refl c.quotient.ensures refl
