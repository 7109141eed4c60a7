-- `byte_order::swap_bytes` meets its promise: the format's refusals first, then the low bits, turned and wrapped.
-- Assumes nothing.
use Rattle.format.specs.Answer.{exit-answered}
use Rattle.byte_order.proofs.Buffers.{opened}
use Rattle.byte_order.proofs.swap_bytes.Goals as goal

pub returns-in_err-format : goal.returns-in_err-format
returns-in_err-format g c =
    exit-answered g.R.Raw.kind _ _ c.from_residual.result c.from_residual.ensures.1 c.in_err-format.ensures.err

pub returns : goal.returns
returns g c =
    let o = c.in_ok-format.ensures.ok in
    opened g.R.Raw.kind o (rw (c.low_bits-low.ensures, o.width_is) at c.turned.ensures) c.wrapped.ensures
