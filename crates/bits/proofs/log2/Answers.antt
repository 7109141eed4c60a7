-- `bits::log2` meets its contract: a power of two by how it lies between two. Assumes nothing.
use Rattle.bits.specs.Bits.{log-power}
use Rattle.bits.proofs.log2.Goals as goal

pub returns : goal.returns
returns c = rw c.from.ensures (log-power c.ilog2.result c.requires c.ilog2.ensures.power_le c.ilog2.ensures.next_power_gt)
