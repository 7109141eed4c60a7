-- `results::floor` meets its contract, by the sign. Assumes nothing.
use Rattle.std.proofs.Common.{refl}
use Rattle.exact.specs.Signs.{floor-above}
use Rattle.results.specs.Results.{ceil-turned}
use Rattle.results.proofs.floor.Goals as goal

pub returns-then-x : goal.returns-then-x
returns-then-x c = ceil-turned _ _ c.requires c.if-x.true c.div_ceil-size.ensures

pub returns-else-x : goal.returns-else-x
returns-else-x c = rw c.if-x.false (floor-above _ _ refl refl)
