-- Patterns of raws, computed from the meaning: the zero, the sign, ties, a carry into the exponent, the ends of 64 bits, the refusals; and patterns of
-- numbers. Assumes nothing.
use Rattle.std.specs.Prelude.{◌≡◌, Bool, true, false, List, [], ◌∷◌, map, ℕ, ℤ, pos, negsuc}
use Rattle.std.proofs.Math.Path.{refl}
use Rattle.std.specs.Float.Ieee.{size, span, climb}
use Rattle.laws.specs.Nearest.{nearest_even, nearest_by}
use Rattle.format.specs.Meaning.{Outcome, done, refused, is_width, fault_of, guarded}
use Rattle.float.specs.Meaning.{Binary, binary32, binary64}
use Rattle.to_float.specs.Meaning.{nearest_steps, pattern_by, pattern_of, to_float_of}

data Row : Type 0 where
  f32 : ℕ → ℕ → ℤ → Outcome → Row
  f64 : ℕ → ℕ → ℤ → Outcome → Row

unfoldable got : Row → Outcome
got (f32 w f a o) = to_float_of binary32 w f a
got (f64 w f a o) = to_float_of binary64 w f a

unfoldable told : Row → Outcome
told (f32 w f a o) = o
told (f64 w f a o) = o

abbrev is : ℕ → Outcome
is x = done (pos x) false

abbrev table : List Row
table =
    -- "0 gives the positive zero"
    f32 8 4 (pos 0) (is 0x00000000) ∷
    f64 64 64 (pos 0) (is 0x0000000000000000) ∷
    -- 1, -1, and one step of I1F15 above -1/2
    f32 8 0 (pos 1) (is 0x3f800000) ∷
    f32 16 15 (negsuc 32767) (is 0xbf800000) ∷
    f64 16 15 (negsuc 16382) (is 0xbfdfff8000000000) ∷
    -- ties: 2^24 + 1 down and 2^24 + 3 up, both to even; 2^53 + 1
    f32 32 0 (pos 16777217) (is 0x4b800000) ∷
    f32 32 0 (pos 16777219) (is 0x4b800002) ∷
    f64 64 0 (pos 9007199254740993) (is 0x4340000000000000) ∷
    f64 64 0 (negsuc 9007199254740994) (is 0xc340000000000002) ∷
    -- all ones carry into the exponent: 2^64 - 1 is 2^64, and 1 at F = 64
    f32 64 0 (pos 18446744073709551615) (is 0x5f800000) ∷
    f64 64 64 (pos 18446744073709551615) (is 0x3ff0000000000000) ∷
    f64 64 0 (negsuc 9223372036854775807) (is 0xc3e0000000000000) ∷
    -- the least step
    f32 64 64 (pos 1) (is 0x1f800000) ∷
    -- 1, then 2; nothing else is refused
    f32 9 10 (pos 1) (refused 1) ∷
    f64 8 9 (pos 1) (refused 2) ∷
    -- a raw is the number that it is, also where the format could not hold it
    f32 8 0 (pos 1000) (is 0x447a0000) ∷
    []

module _ where
  each : map got table ≡ map told table
  unfolding got told is_width fault_of guarded size span climb nearest_even nearest_by nearest_steps pattern_by pattern_of
  each = refl

-- ---- a sign, n and F, and the pattern of n / 2^F. 0, 1, -1, the ends of 64 bits, a carry, ties to even, also among subnormal numbers
data Back : Type 0 where
  back : Binary → Bool → ℕ → ℕ → ℕ → Back

unfoldable written : Back → ℕ
written (back b neg n f x) = pattern_of b neg n f

unfoldable wanted : Back → ℕ
wanted (back b neg n f x) = x

abbrev backs : List Back
backs =
    back binary32 false 0 0 0x00000000 ∷
    back binary32 false 1 0 0x3f800000 ∷
    back binary64 true 1 0 0xbff0000000000000 ∷
    back binary32 false 18446744073709551615 0 0x5f800000 ∷
    back binary64 false 18446744073709551615 64 0x3ff0000000000000 ∷
    back binary64 false 9223372036854775807 0 0x43e0000000000000 ∷
    back binary32 false 16777217 0 0x4b800000 ∷
    back binary32 true 16777219 0 0xcb800002 ∷
    back binary32 false 1 64 0x1f800000 ∷
    back binary32 false 1 149 0x00000001 ∷
    back binary32 false 3 150 0x00000002 ∷
    back binary32 false 1 150 0x00000000 ∷
    -- up to 2^128 - 2^103 the largest number, which is 2^128 - 2^104, and from there on the infinity
    back binary32 false 340282356779733661637539395458142568447 0 0x7f7fffff ∷
    back binary32 true 340282356779733661637539395458142568448 0 0xff800000 ∷
    []

module _ where
  each_back : map written backs ≡ map wanted backs
  unfolding written wanted size span climb nearest_even nearest_by nearest_steps pattern_by pattern_of
  each_back = refl
