-- `bits::bits` meets its contract: the radix and what the exponent scales by are powers of two, so all of it is one shift. Assumes nothing.
use Rattle.std.proofs.Common.{arith}
use Rattle.bits.specs.Bits.{places-small, step_small, down-done, up_done}
use Rattle.bits.proofs.bits.Goals as goal

pub overflow_mul-places : goal.overflow_mul-places
overflow_mul-places c = record { fits = omega (arith, places-small c.requires c.log2-width.ensures.1) }

pub overflow_add-places : goal.overflow_add-places
overflow_add-places c =
    record { fits = omega (arith, places-small c.requires c.log2-width.ensures.1, step_small c.requires c.log2.ensures.1) }

pub returns-then-down : goal.returns-then-down
returns-then-down c =
    let a = c.args in
    let width = c.log2-width in
    let step = c.log2 in
    down-done a.body.now a.after a.radix a.base a.exp a.frac width.result step.result width.ensures.0 step.ensures.0 c.if-down.true
    (rw (c.from.ensures, c.of.ensures) at c.scaled.ensures)

pub returns : goal.returns
returns c =
    let a = c.args in
    let width = c.log2-width in
    let step = c.log2 in
    up_done a.body.now a.after a.radix a.base a.exp a.frac width.result step.result width.ensures.0 step.ensures.0 c.if-down.false
    (rw (c.from-2.ensures, c.of.ensures) at c.scaled-2.ensures)
