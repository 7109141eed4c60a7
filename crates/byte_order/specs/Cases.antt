-- Document 01's case, computed from the meaning. Assumes nothing.
use Rattle.std.specs.Prelude.{◌≡◌, false, pos}
use Rattle.std.proofs.Math.Path.{refl}
use Rattle.format.specs.Meaning.{signed, is_width, fault_of, lowest, wrap, done, guarded}
use Rattle.byte_order.specs.Meaning.{swap_of, low_bits, le_bytes, from_be}

module _ where
  -- "W 32, F 16, signed: .. Bytes swapped: 0x12345678 gives 0x78563412"
  swapped : swap_of signed 32 16 (pos 0x12345678) ≡ done (pos 0x78563412) false
  unfolding is_width fault_of guarded lowest wrap low_bits le_bytes from_be
  swapped = refl
