-- Conversions and the wrong answers that document 01 rules out, computed from the meaning. Assumes nothing.
use Rattle.std.specs.Prelude.{◌≡◌, true, false, pos, negsuc}
use Rattle.std.proofs.Math.Path.{refl}
use Rattle.format.specs.declared.Manner.TheVariants.{Strict, Saturating, Overflowing}
use Rattle.format.specs.Meaning.{signed, unsigned, is_width, lowest, highest, fits, hold, wrap, settle, done, refused, guarded}
use Rattle.convert.specs.Meaning.{formats_fault, convert_of}

module _ where
  -- a bit dropped below zero: -1 step of a half is -1 whole, not 0
  dropped-down : convert_of Strict signed 8 1 8 0 (negsuc 0) ≡ done (negsuc 0) false
  unfolding is_width formats_fault guarded lowest highest fits settle
  dropped-down = refl

  dropped-above : convert_of Strict signed 8 1 8 0 (pos 3) ≡ done (pos 1) false
  unfolding is_width formats_fault guarded lowest highest fits settle
  dropped-above = refl

  -- all 64 bits dropped leave the sign
  all-dropped : convert_of Strict signed 64 64 64 0 (negsuc 0) ≡ done (negsuc 0) false
  unfolding is_width formats_fault guarded lowest highest fits settle
  all-dropped = refl

  -- -1 in I1F15 is -2^63 in I1F63, and 1 step there is too fine for I1F15
  finer : convert_of Strict signed 16 15 64 63 (negsuc 32767) ≡ done (negsuc 0x7fffffffffffffff) false
  unfolding is_width formats_fault guarded lowest highest fits settle
  finer = refl

  coarser : convert_of Strict signed 64 63 16 15 (pos 1) ≡ done (pos 0) false
  unfolding is_width formats_fault guarded lowest highest fits settle
  coarser = refl

  -- rounded first and fitted then: -1/2 at F = 0 is -1, which no unsigned format has
  below-unsigned : convert_of Strict unsigned 8 1 8 0 (negsuc 0) ≡ refused 10
  unfolding is_width formats_fault guarded lowest highest fits settle
  below-unsigned = refl

  held-at-zero : convert_of Saturating unsigned 8 1 8 0 (negsuc 0) ≡ done (pos 0) false
  unfolding is_width formats_fault guarded lowest highest hold settle
  held-at-zero = refl

  -- 1 has 2^64 steps at F = 64: past one word, and past the range
  one-too-large : convert_of Saturating unsigned 8 0 64 64 (pos 1) ≡ done (pos 0xffffffffffffffff) false
  unfolding is_width formats_fault guarded lowest highest hold settle
  one-too-large = refl

  one-wraps : convert_of Overflowing unsigned 8 0 64 64 (pos 1) ≡ done (pos 0) true
  unfolding is_width formats_fault guarded lowest highest fits wrap settle
  one-wraps = refl

  -- 1 of either width goes before 2 of either F, and both before 10
  width-first : convert_of Strict signed 8 9 7 0 (pos 1) ≡ refused 1
  unfolding is_width formats_fault guarded
  width-first = refl

  frac-next : convert_of Strict signed 8 9 8 0 (pos 1000) ≡ refused 2
  unfolding is_width formats_fault guarded
  frac-next = refl
