-- The ends of an unsigned format: 0 below, and every bit of the width above. Assumes nothing.
use Rattle.format.specs.Settle.{limit-none, limit-top}
use Rattle.format.proofs.raw.U64Raw.end.Goals as goal

pub returns-then-neg : goal.returns-then-neg
returns-then-neg c = search limit-none

pub returns-else-neg : goal.returns-else-neg
returns-else-neg c = search limit-top
