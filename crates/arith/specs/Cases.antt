-- Document 01's cases, and the wrong answers that it rules out, computed from the meaning. Assumes nothing.
use Rattle.std.specs.Prelude.{◌≡◌, true, false, pos, negsuc}
use Rattle.std.proofs.Math.Path.{refl}
use Rattle.format.specs.declared.Manner.TheVariants.{Strict, Saturating, Wrapping, Overflowing}
use Rattle.format.specs.Meaning.{signed, unsigned, is_width, fault_of, lowest, highest, fits, hold, wrap, settle, done, refused, guarded}
use Rattle.exact.specs.Meaning.{or_else}
use Rattle.arith.specs.Meaning.{add_of, mul_of, div_of, rem_of, divisor_fault}

module _ where
  -- "W 32, F 16, signed: maximum plus one step, wrapping, is the minimum."
  past-maximum : add_of Wrapping signed 32 16 (pos 2147483647) (pos 1) ≡ done (negsuc 2147483647) false
  unfolding is_width fault_of guarded lowest wrap settle
  past-maximum = refl

  -- "Taking the sign of a saturated result from the wrapped number": 127 + 127 is held to 127
  saturated : add_of Saturating signed 8 0 (pos 127) (pos 127) ≡ done (pos 127) false
  unfolding is_width fault_of guarded lowest highest hold settle
  saturated = refl

  -- the product goes toward minus infinity, the quotient toward zero: -1 step times half, -3 steps over 2
  product-down : mul_of Strict signed 8 4 (negsuc 0) (pos 8) ≡ done (negsuc 0) false
  unfolding is_width fault_of guarded lowest highest fits settle
  product-down = refl

  quotient-to-zero : div_of Strict signed 8 0 (negsuc 2) (pos 2) ≡ done (negsuc 0) false
  unfolding is_width fault_of or_else divisor_fault guarded lowest highest fits settle
  quotient-to-zero = refl

  -- the least number over -1 does not fit
  least-over : div_of Strict signed 8 0 (negsuc 127) (negsuc 0) ≡ refused 10
  unfolding is_width fault_of or_else divisor_fault guarded lowest highest fits settle
  least-over = refl

  least-wraps : div_of Overflowing signed 8 0 (negsuc 127) (negsuc 0) ≡ done (negsuc 127) true
  unfolding is_width fault_of or_else divisor_fault guarded lowest highest fits wrap settle
  least-wraps = refl

  -- 31 goes after 1 and 2, and before 10
  no-divisor : rem_of Strict unsigned 8 8 (pos 1) (pos 0) ≡ refused 31
  unfolding is_width fault_of or_else divisor_fault guarded
  no-divisor = refl

  no-format : div_of Strict unsigned 9 9 (pos 1) (pos 0) ≡ refused 1
  unfolding is_width fault_of or_else divisor_fault guarded
  no-format = refl
