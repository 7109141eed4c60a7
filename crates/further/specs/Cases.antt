-- The worked examples of src/wrapping.rs's documentation, and what they leave out, computed from the meaning. I16F16: one is 65536 steps. Assumes nothing.
use Rattle.std.specs.Prelude.{◌≡◌, refl, true, false, pos, negsuc}
use Rattle.format.specs.declared.Manner.TheVariants.{Strict, Wrapping, Overflowing}
use Rattle.format.specs.Meaning.{signed, unsigned, is_width, fault_of, lowest, highest, fits, wrap, settle, done, refused, guarded}
use Rattle.exact.specs.Meaning.{or_else}
use Rattle.arith.specs.Meaning.{divisor_fault}
use Rattle.units.specs.Meaning.{by_size}
use Rattle.results.specs.Meaning.{quot_euclid}
use Rattle.further.specs.Meaning.{abs_of, signum_of, rem_euclid_of, div_euclid_of, mul_add_of, dist_of, mean_of}

-- |-5| is 5; of the minimum it wraps to the minimum
abs-five : abs_of Wrapping signed 32 16 (negsuc 327679) ≡ done (pos 327680) false
unfolding is_width fault_of guarded lowest wrap settle
abs-five = refl

abs-least : abs_of Wrapping signed 32 16 (negsuc 2147483647) ≡ done (negsuc 2147483647) false
unfolding is_width fault_of guarded lowest wrap settle
abs-least = refl

abs-least-strict : abs_of Strict signed 32 16 (negsuc 2147483647) ≡ refused 10
unfolding is_width fault_of guarded lowest highest fits settle
abs-least-strict = refl

-- the sign of -3.9, of 0 and of 3.9
sign_below : signum_of Wrapping signed 32 16 (negsuc 255589) ≡ done (negsuc 65535) false
unfolding is_width fault_of guarded lowest wrap settle by_size
sign_below = refl

sign-none : signum_of Wrapping signed 32 16 (pos 0) ≡ done (pos 0) false
unfolding is_width fault_of guarded lowest wrap settle by_size
sign-none = refl

sign_above : signum_of Wrapping signed 32 16 (pos 255590) ≡ done (pos 65536) false
unfolding is_width fault_of guarded lowest wrap settle by_size
sign_above = refl

-- "+1 does not fit and is wrapped to −1": I1F31, 0.5; "where there are no integer bits .. always zero": I0F32, 0.25 and -0.5
sign-one-bit : signum_of Wrapping signed 32 31 (pos 1073741824) ≡ done (negsuc 2147483647) false
unfolding is_width fault_of guarded lowest wrap settle by_size
sign-one-bit = refl

sign-no-bit : signum_of Wrapping signed 32 32 (pos 1073741824) ≡ done (pos 0) false
unfolding is_width fault_of guarded lowest wrap settle by_size
sign-no-bit = refl

sign-no-bit-below : signum_of Wrapping signed 32 32 (negsuc 2147483647) ≡ done (pos 0) false
unfolding is_width fault_of guarded lowest wrap settle by_size
sign-no-bit-below = refl

-- from -1 to 4 it is 5; from the minimum to the maximum 2^32 - 1 steps, which wrap to -1
dist-five : dist_of Wrapping signed 32 16 (negsuc 65535) (pos 262144) ≡ done (pos 327680) false
unfolding is_width fault_of guarded lowest wrap settle
dist-five = refl

dist-most : dist_of Wrapping signed 32 16 (negsuc 2147483647) (pos 2147483647) ≡ done (negsuc 0) false
unfolding is_width fault_of guarded lowest wrap settle
dist-most = refl

-- between 3 and 4 it is 3.5, between 3 and -4 it is -0.5; an odd sum of steps goes down
mean-above : mean_of Wrapping signed 32 16 (pos 196608) (pos 262144) ≡ done (pos 229376) false
unfolding is_width fault_of guarded lowest wrap settle
mean-above = refl

mean-below : mean_of Wrapping signed 32 16 (pos 196608) (negsuc 262143) ≡ done (negsuc 32767) false
unfolding is_width fault_of guarded lowest wrap settle
mean-below = refl

mean-down : mean_of Strict signed 8 0 (negsuc 0) (pos 0) ≡ done (negsuc 0) false
unfolding is_width fault_of guarded lowest highest fits settle
mean-down = refl

-- 3 x 0.5 + 4 is 5.5; the maximum x 3 + the maximum is the maximum x 4, -4 steps
mul-add-half : mul_add_of Wrapping signed 32 16 (pos 196608) (pos 32768) (pos 262144) ≡ done (pos 360448) false
unfolding is_width fault_of guarded lowest wrap settle
mul-add-half = refl

mul-add-most : mul_add_of Wrapping signed 32 16 (pos 2147483647) (pos 196608) (pos 2147483647) ≡ done (negsuc 3) false
unfolding is_width fault_of guarded lowest wrap settle
mul-add-most = refl

-- a product that does not fit: 256 - 128 does not fit either, 240 - 128 does
mul-add-back : mul_add_of Strict signed 8 0 (pos 16) (pos 16) (negsuc 127) ≡ refused 10
unfolding is_width fault_of guarded lowest highest fits settle
mul-add-back = refl

mul-add-fits : mul_add_of Strict signed 8 0 (pos 16) (pos 15) (negsuc 127) ≡ done (pos 112) false
unfolding is_width fault_of guarded lowest highest fits settle
mul-add-fits = refl

-- 7.5 by 2 is 3, and 1.5 is left; of -7.5 it is 0.5
div-euclid : div_euclid_of Wrapping signed 32 16 (pos 491520) (pos 131072) ≡ done (pos 196608) false
unfolding is_width fault_of or_else divisor_fault guarded lowest wrap settle quot_euclid
div-euclid = refl

rem-euclid : rem_euclid_of Wrapping signed 32 16 (pos 491520) (pos 131072) ≡ done (pos 98304) false
unfolding is_width fault_of or_else divisor_fault guarded lowest wrap settle
rem-euclid = refl

rem-euclid-below : rem_euclid_of Wrapping signed 32 16 (negsuc 491519) (pos 131072) ≡ done (pos 32768) false
unfolding is_width fault_of or_else divisor_fault guarded lowest wrap settle
rem-euclid-below = refl

-- the maximum by 0.25 is 131071, which wraps to -1; the documentation's example has 0, the wrapped quotient rounded toward zero
div-euclid-most : div_euclid_of Wrapping signed 32 16 (pos 2147483647) (pos 16384) ≡ done (negsuc 65535) false
unfolding is_width fault_of or_else divisor_fault guarded lowest wrap settle quot_euclid
div-euclid-most = refl

-- the minimum by -1 is itself, wrapped
div-euclid-least : div_euclid_of Overflowing signed 32 16 (negsuc 2147483647) (negsuc 65535) ≡ done (negsuc 2147483647) true
unfolding is_width fault_of or_else divisor_fault guarded lowest highest fits wrap settle quot_euclid
div-euclid-least = refl

no-divisor : rem_euclid_of Strict unsigned 8 8 (pos 1) (pos 0) ≡ refused 31
unfolding is_width fault_of or_else divisor_fault guarded
no-divisor = refl
