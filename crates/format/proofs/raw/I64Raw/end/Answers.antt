-- The ends of a signed format: half of 2^W below, one less above. Assumes nothing.
use Rattle.std.proofs.Common.{arith, pow_pos, ◌-◌}
use Rattle.format.specs.Settle.{limit-below, limit-above}
use Rattle.format.proofs.raw.I64Raw.end.Goals as goal

pub returns-then-neg : goal.returns-then-neg
returns-then-neg c = search limit-below

pub overflow_sub-result : goal.overflow_sub-result
overflow_sub-result c = omega (arith, c.half-half.ensures, pow_pos (c.args.format.width - 1))

pub returns-else-neg : goal.returns-else-neg
returns-else-neg c = search limit-above
