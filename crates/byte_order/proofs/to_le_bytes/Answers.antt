-- `byte_order::to_le_bytes` meets its promise: the first bytes of the word of the low bits, copied; a refusal leaves the buffer as it was.
-- Assumes nothing.
use Rattle.std.proofs.Common.{◌∙◌, ℕ, length, take, ap, ap₂, sym, arith}
use Rattle.std.proofs.lemmas.List.{length-take-le}
use Rattle.byte_order.specs.Meaning.{le_bytes, low_bits}
use Rattle.byte_order.proofs.Buffers.{room_of, little-length, stored-done, stored_exit}
use Rattle.byte_order.proofs.Words.{low-cut}
use Rattle.byte_order.proofs.to_le_bytes.Goals as goal

pub returns-in_err-format : goal.returns-in_err-format
returns-in_err-format g c = stored_exit c.from_residual.result c.from_residual.ensures.1 c.in_err-format.ensures.err

pub slice_bounds-word-end : goal.slice_bounds-word-end
slice_bounds-word-end g c =
    omega (arith, room_of _ _ _ c.in_ok-format.ensures.ok.free c.size.ensures, ap length c.to_le_bytes-word.ensures)

pub slice_bounds-store-end : goal.slice_bounds-store-end
slice_bounds-store-end g c =
    let room = room_of _ _ _ c.in_ok-format.ensures.ok.free c.size.ensures in
    sym (length-take-le c.size.result c.to_le_bytes-word.result (omega (arith, room.1, ap length c.to_le_bytes-word.ensures)))

pub store-requires : goal.store-requires
store-requires g c =
    let room = room_of _ _ _ c.in_ok-format.ensures.ok.free c.size.ensures in
    let size = length-take-le c.size.result c.to_le_bytes-word.result (omega (arith, room.1, ap length c.to_le_bytes-word.ensures)) in
    omega (arith, room.0, size)

pub returns : goal.returns
returns g c =
    let n = c.size.result in
    let a = g.R.Raw.kind.number_of c.args.a in
    let o = c.in_ok-format.ensures.ok in
    let room = room_of _ _ _ o.free c.size.ensures in
    let cut = ap (take n) c.to_le_bytes-word.ensures ∙ low-cut n c.low_bits.result room.1 in
    let same = ap₂ le_bytes c.size.ensures (c.low_bits.ensures ∙ ap (λ (w : ℕ). low_bits w a) o.width_is) in
    stored-done o.free (cut ∙ same) (little-length c.args.width a) c.store.ensures.answer c.store.ensures.buffer
