-- The wrong answers that document 01 rules out, computed from the meaning. Assumes nothing.
use Rattle.std.specs.Prelude.{◌≡◌, true, false, pos, negsuc}
use Rattle.std.proofs.Math.Path.{refl}
use Rattle.format.specs.declared.Manner.TheVariants.{Strict, Overflowing}
use Rattle.format.specs.Meaning.{signed, is_width, fault_of, lowest, wrap, done, refused, guarded}
use Rattle.exact.specs.Meaning.{or_else}
use Rattle.shift.specs.Meaning.{shl_of, shr_of, past_fault, count_fault, count_flag}

module _ where
  -- a shift by W: the count modulo W, and the flag; the bits that are lost do not matter
  by_width : shl_of Overflowing signed 8 4 (pos 3) 8 ≡ done (pos 3) true
  unfolding is_width fault_of or_else count_fault past_fault count_flag guarded lowest wrap
  by_width = refl

  by-width-strict : shr_of Strict signed 8 4 (pos 3) 8 ≡ refused 10
  unfolding is_width fault_of or_else count_fault past_fault guarded
  by-width-strict = refl

  lost-bits : shl_of Overflowing signed 8 4 (pos 127) 7 ≡ done (negsuc 127) false
  unfolding is_width fault_of or_else count_fault past_fault count_flag guarded lowest wrap
  lost-bits = refl

  keeps-sign : shr_of Strict signed 8 4 (negsuc 127) 7 ≡ done (negsuc 0) false
  unfolding is_width fault_of or_else count_fault past_fault count_flag guarded lowest wrap
  keeps-sign = refl
