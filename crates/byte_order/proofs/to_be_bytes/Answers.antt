-- `byte_order::to_be_bytes` meets its promise: the last bytes of the word of the low bits, copied; a refusal leaves the buffer as it was.
-- Assumes nothing.
use Rattle.std.proofs.Common.{◌-◌, ◌∙◌, ℕ, List, length, take, drop, reverse, ap, ap₂, arith}
use Rattle.byte_order.specs.Meaning.{le_bytes, low_bits}
use Rattle.byte_order.proofs.Buffers.{room_of, big-length, stored-done, stored_exit}
use Rattle.byte_order.proofs.Words.{high-cut, high-size}
use Rattle.byte_order.proofs.to_be_bytes.Goals as goal

pub returns-in_err-format : goal.returns-in_err-format
returns-in_err-format g c = stored_exit c.from_residual.result c.from_residual.ensures.1 c.in_err-format.ensures.err

pub overflow_sub-size : goal.overflow_sub-size
overflow_sub-size g c = (room_of _ _ _ c.in_ok-format.ensures.ok.free c.size.ensures).1

pub store-requires : goal.store-requires
store-requires g c =
    let n = c.size.result in
    let room = room_of _ _ _ c.in_ok-format.ensures.ok.free c.size.ensures in
    let size = ap (λ (l : List ℕ). length (take (8 - (8 - n)) (drop (8 - n) l))) c.to_be_bytes-word.ensures ∙ high-size n c.low_bits.result room.1 in
    omega (arith, room.0, size)

pub returns : goal.returns
returns g c =
    let n = c.size.result in
    let a = g.R.Raw.kind.number_of c.args.a in
    let o = c.in_ok-format.ensures.ok in
    let room = room_of _ _ _ o.free c.size.ensures in
    let cut = ap (λ (l : List ℕ). take (8 - (8 - n)) (drop (8 - n) l)) c.to_be_bytes-word.ensures ∙ high-cut n c.low_bits.result room.1 in
    let same = ap₂ (λ (k v : ℕ). reverse (le_bytes k v)) c.size.ensures (c.low_bits.ensures ∙ ap (λ (w : ℕ). low_bits w a) o.width_is) in
    stored-done o.free (cut ∙ same) (big-length c.args.width a) c.store.ensures.answer c.store.ensures.buffer
