-- The worked examples of src/wrapping.rs's documentation, and the formats without integer bits, computed from the meaning. Assumes nothing.
use Rattle.std.specs.Prelude.{◌≡◌, refl, true, false, pos, negsuc}
use Rattle.laws.specs.Nearest.{nearest_by, nearest_even}
use Rattle.format.specs.declared.Manner.TheVariants.{Strict, Saturating, Wrapping, Overflowing}
use Rattle.format.specs.Meaning.{signed, unsigned, is_width, fault_of, lowest, highest, fits, hold, wrap, settle, done, refused, guarded}
use Rattle.units.specs.Meaning.{nearest_away, by_size, int_part}
use Rattle.whole.specs.Meaning.{floor_of, ceil_of, round_of, even_of, int_of, frac_of}

-- I16F16: 12.25 is 802816 steps, and 12 is 786432
int-above : int_of Wrapping signed 32 16 (pos 802816) ≡ done (pos 786432) false
unfolding is_width fault_of guarded lowest wrap settle int_part
int-above = refl

-- -12.25 goes to -13
int-below : int_of Wrapping signed 32 16 (negsuc 802815) ≡ done (negsuc 851967) false
unfolding is_width fault_of guarded lowest wrap settle int_part
int-below = refl

-- their fractions are 0.25 and 0.75
frac-above : frac_of Wrapping signed 32 16 (pos 802816) ≡ done (pos 16384) false
unfolding is_width fault_of guarded lowest wrap settle int_part
frac-above = refl

frac-below : frac_of Wrapping signed 32 16 (negsuc 802815) ≡ done (pos 49152) false
unfolding is_width fault_of guarded lowest wrap settle int_part
frac-below = refl

-- "where there are no integer bits": I0F16, -0.25
int-none : int_of Strict signed 16 16 (negsuc 16383) ≡ done (pos 0) false
unfolding is_width fault_of guarded lowest highest fits settle int_part
int-none = refl

frac-none : frac_of Strict signed 16 16 (negsuc 16383) ≡ done (negsuc 16383) false
unfolding is_width fault_of guarded lowest highest fits settle int_part
frac-none = refl

-- 2.5 up is 3, and the maximum wraps to the minimum
ceil-half : ceil_of Wrapping signed 32 16 (pos 163840) ≡ done (pos 196608) false
unfolding is_width fault_of guarded lowest wrap settle
ceil-half = refl

ceil-most : ceil_of Wrapping signed 32 16 (pos 2147483647) ≡ done (negsuc 2147483647) false
unfolding is_width fault_of guarded lowest wrap settle
ceil-most = refl

-- unsigned and F = W: one half goes up to one, which is 2^W steps
ceil-over : ceil_of Strict unsigned 64 64 (pos 9223372036854775808) ≡ refused 10
unfolding is_width fault_of guarded lowest highest fits settle
ceil-over = refl

ceil-flag : ceil_of Overflowing unsigned 64 64 (pos 9223372036854775808) ≡ done (pos 0) true
unfolding is_width fault_of guarded lowest highest fits wrap settle
ceil-flag = refl

-- 2.5 down is 2; I0F32's minimum, -0.5, goes to -1 and wraps to 0
floor-half : floor_of Wrapping signed 32 16 (pos 163840) ≡ done (pos 131072) false
unfolding is_width fault_of guarded lowest wrap settle
floor-half = refl

floor-least : floor_of Wrapping signed 32 32 (negsuc 2147483647) ≡ done (pos 0) false
unfolding is_width fault_of guarded lowest wrap settle
floor-least = refl

floor-held : floor_of Saturating signed 32 32 (negsuc 2147483647) ≡ done (negsuc 2147483647) false
unfolding is_width fault_of guarded lowest highest hold settle
floor-held = refl

-- 2.5 is 3, -2.5 is -3, the maximum wraps to the minimum
round-half : round_of Wrapping signed 32 16 (pos 163840) ≡ done (pos 196608) false
unfolding is_width fault_of guarded lowest wrap settle nearest_away by_size
round-half = refl

round-below : round_of Wrapping signed 32 16 (negsuc 163839) ≡ done (negsuc 196607) false
unfolding is_width fault_of guarded lowest wrap settle nearest_away by_size
round-below = refl

round-most : round_of Wrapping signed 32 16 (pos 2147483647) ≡ done (negsuc 2147483647) false
unfolding is_width fault_of guarded lowest wrap settle nearest_away by_size
round-most = refl

-- ties to even: 2.5 is 2, 3.5 is 4, the maximum wraps to the minimum
even-down : even_of Wrapping signed 32 16 (pos 163840) ≡ done (pos 131072) false
unfolding is_width fault_of guarded lowest wrap settle nearest_even nearest_by by_size
even-down = refl

even_up : even_of Wrapping signed 32 16 (pos 229376) ≡ done (pos 262144) false
unfolding is_width fault_of guarded lowest wrap settle nearest_even nearest_by by_size
even_up = refl

even-most : even_of Wrapping signed 32 16 (pos 2147483647) ≡ done (negsuc 2147483647) false
unfolding is_width fault_of guarded lowest wrap settle nearest_even nearest_by by_size
even-most = refl
