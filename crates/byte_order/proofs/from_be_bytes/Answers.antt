-- `byte_order::from_be_bytes` meets its promise: the refusals first, then W / 8 bytes, read lowest first, turned and
-- wrapped. Assumes nothing.
use Rattle.std.proofs.Common.{ℕ, ◌/◌, ap, ap₂, sym, ◌∙◌}
use Rattle.format.specs.Answer.{exit-answered}
use Rattle.byte_order.specs.Meaning.{le_bytes}
use Rattle.byte_order.proofs.Buffers.{length_of, opened}
use Rattle.byte_order.proofs.Words.{bytes-again}
use Rattle.byte_order.proofs.from_be_bytes.Goals as goal

pub returns-in_err-format : goal.returns-in_err-format
returns-in_err-format g c =
    exit-answered g.R.Raw.kind _ _ c.from_residual.result c.from_residual.ensures.1 c.in_err-format.ensures.err

pub read-low-requires : goal.read-low-requires
read-low-requires g c = (length_of _ _ _ c.in_ok-format.ensures.ok.free).1

pub returns : goal.returns
returns g c =
    let o = c.in_ok-format.ensures.ok in
    let size = ap (λ (w : ℕ). w / 8) o.width_is ∙ sym (length_of _ _ _ o.free).0 in
    let bytes = ap₂ le_bytes size c.read-low.ensures ∙ bytes-again _ (λ i. (c.type_inv.bytes i).fits) in
    opened g.R.Raw.kind o (rw bytes at c.turned.ensures) c.wrapped.ensures
