-- `order::middle` meets its contract: the shift loses nothing, since q is below 2^frac (`middle-words`). Assumes nothing.
use Rattle.std.proofs.Common.{◌∙◌, ap, ℕ, ◌+◌}
use native.Mathlib.Omega.{arith}
use Rattle.wide.specs.Meaning.{value_of}
use Rattle.tens.specs.Order.{middle-fits, middle-words}
use Rattle.tens.proofs.order.middle.Goals as goal

pub add-ten-requires : goal.add-ten-requires
add-ten-requires c = omega (arith, c.from.ensures, middle-fits c.args.q c.ranges.q.fits c.mul.ensures)

pub returns : goal.returns
returns c =
    let a = c.args in
    middle-words a.frac a.q (omega arith) (omega arith) c.mul.ensures (c.add-ten.ensures ∙ ap (λ (n : ℕ). value_of c.mul.result + n) c.from.ensures) c.shl.ensures
