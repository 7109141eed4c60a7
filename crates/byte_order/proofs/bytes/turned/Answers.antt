-- `byte_order::bytes::turned` meets its contract: the W low bits stand at the top of the swapped word. Assumes nothing.
use Rattle.std.proofs.Common.{◌∙◌, ap, arith, ℕ, ◌/◌, ◌^◌, ◌-◌}
use Rattle.format.specs.Fault.{width-bounds}
use Rattle.byte_order.specs.Theorems.{eights}
use Rattle.byte_order.proofs.Words.{swap-word}
use Rattle.byte_order.proofs.bytes.turned.Goals as goal

pub overflow_sub-result : goal.overflow_sub-result
overflow_sub-result c = (width-bounds _ c.args.format.one_of_four).1

pub overflow_shr-result : goal.overflow_shr-result
overflow_shr-result c = omega (arith, width-bounds _ c.args.format.one_of_four)

pub returns : goal.returns
returns c =
    let w = c.args.format.width in
    let h = c.args.format.one_of_four in
    ap (λ (v : ℕ). v / 2 ^ (64 - w)) c.swap_bytes.ensures ∙ swap-word w c.args.x (eights w h) (width-bounds w h).1
