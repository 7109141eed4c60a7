-- `scan::literal::digits_at` meets its contract: after the prefix and its `_`, or at once. Assumes nothing.
use Rattle.std.proofs.Common.{arith}
use Rattle.scan.specs.Literal.{digits-room, digits-fit, digits-prefixed}
use Rattle.scan.proofs.literal.digits_at.Goals as goal

pub slice_bounds-unds_front-count : goal.slice_bounds-unds_front-count
slice_bounds-unds_front-count c = omega (arith, digits-room c.args.text.now c.requires c.if-radix-eq10.false)

pub slice_bounds-unds_front-start : goal.slice_bounds-unds_front-start
slice_bounds-unds_front-start c = omega (arith, digits-room c.args.text.now c.requires c.if-radix-eq10.false)

pub returns-else-radix-eq10 : goal.returns-else-radix-eq10
returns-else-radix-eq10 c =
    let t = c.args.text.now in
    (digits-fit t c.requires c.if-radix-eq10.false c.unds_front.ensures, digits-prefixed t c.requires c.if-radix-eq10.false c.unds_front.ensures)

pub overflow_add-result : goal.overflow_add-result
overflow_add-result c =
    let fits = digits-fit c.args.text.now c.requires c.if-radix-eq10.false c.unds_front.ensures in
    omega arith
