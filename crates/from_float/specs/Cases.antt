-- What patterns give, computed from the meaning: a row is a pattern, a manner, a format and the outcome. A format is named as in document 01:
-- i4f4 is signed, W = 8, F = 4. Assumes nothing.
use Rattle.std.specs.Prelude.{◌≡◌, true, false, List, [], ◌∷◌, map, ℕ, ℤ, pos, neg_ℤ}
use Rattle.std.proofs.Math.Path.{refl}
use Rattle.laws.specs.Nearest.{nearest_even, nearest_by}
use Rattle.format.specs.declared.Manner.{Manner}
use Rattle.format.specs.declared.Manner.TheVariants.{Strict, Saturating, Wrapping, Overflowing}
use Rattle.format.specs.Meaning.{Sign, signed, unsigned, Outcome, done, refused, is_width, fault_of, lowest, highest, fits, hold, wrap, settle, with_sign, guarded}
use Rattle.float.specs.Meaning.{binary32, binary64, of_fields, pattern_value, raw_of_steps}
use Rattle.from_float.specs.Meaning.{infinity, of_value, from_float_of}

-- ---- how a row is written
record Format : Type 0 where
  kind : Sign
  width : ℕ
  frac : ℕ

abbrev i : ℕ → ℕ → Format
i w f = record { kind = signed; width = w; frac = f }

abbrev u : ℕ → ℕ → Format
u w f = record { kind = unsigned; width = w; frac = f }

abbrev minus : ℕ → ℤ
minus n = neg_ℤ (pos n)

data Row : Type 0 where
  f32 : ℕ → Manner → Format → Outcome → Row
  f64 : ℕ → Manner → Format → Outcome → Row

unfoldable got : Row → Outcome
unfolding is_width fault_of guarded
got (f32 x k f o) = from_float_of binary32 k f.kind f.width f.frac x
got (f64 x k f o) = from_float_of binary64 k f.kind f.width f.frac x

unfoldable told : Row → Outcome
told (f32 x k f o) = o
told (f64 x k f o) = o

abbrev table : List Row
table =
    -- "Both zeros give 0"
    f32 0x00000000 Strict (i 8 4) (done (pos 0) false) ∷
    f32 0x80000000 Strict (i 8 4) (done (pos 0) false) ∷
    f64 0x0000000000000000 Strict (u 8 4) (done (pos 0) false) ∷
    f64 0x8000000000000000 Strict (u 8 4) (done (pos 0) false) ∷
    -- 1.0 and -1.0; I1F15 holds -1 and not 1
    f32 0x3f800000 Strict (i 8 4) (done (pos 16) false) ∷
    f64 0x3ff0000000000000 Strict (i 64 32) (done (pos 4294967296) false) ∷
    f32 0xbf800000 Strict (i 16 15) (done (minus 32768) false) ∷
    f32 0x3f800000 Strict (i 16 15) (refused 10) ∷
    f32 0x3f800000 Overflowing (i 16 15) (done (minus 32768) true) ∷
    f64 0x3ff0000000000000 Strict (u 64 64) (refused 10) ∷
    -- -0.4 and -0.6 into an unsigned format at F = 0: rounded first and fitted then
    f32 0xbecccccd Strict (u 8 0) (done (pos 0) false) ∷
    f64 0xbfd999999999999a Overflowing (u 8 0) (done (pos 0) false) ∷
    f32 0xbf19999a Strict (u 8 0) (refused 10) ∷
    f64 0xbfe3333333333333 Overflowing (u 8 0) (done (pos 255) true) ∷
    -- ties go to even, also where the odd bit is in the integer: 0.5, 1.5, 2.5, -2.5, and 127.5 past the end; beside the tie there is no tie
    f32 0x3f000000 Strict (i 8 0) (done (pos 0) false) ∷
    f32 0x3fc00000 Strict (i 8 0) (done (pos 2) false) ∷
    f32 0x40200000 Strict (i 8 0) (done (pos 2) false) ∷
    f64 0xc004000000000000 Strict (i 8 0) (done (minus 2) false) ∷
    f32 0x42ff0000 Strict (i 8 0) (refused 10) ∷
    f32 0x42ff0000 Wrapping (i 8 0) (done (minus 128) false) ∷
    f32 0x42ff0000 Saturating (i 8 0) (done (pos 127) false) ∷
    f64 0x4004000000000001 Strict (i 8 0) (done (pos 3) false) ∷
    f64 0x3fe0000000000001 Strict (i 8 0) (done (pos 1) false) ∷
    -- the least subnormal number, the largest one and the least normal one are below half of the least step
    f32 0x00000001 Strict (u 64 64) (done (pos 0) false) ∷
    f32 0x807fffff Strict (u 64 64) (done (pos 0) false) ∷
    f64 0x000fffffffffffff Overflowing (i 64 64) (done (pos 0) false) ∷
    f64 0x0010000000000000 Strict (i 64 64) (done (pos 0) false) ∷
    -- 2^-64 is one step of F = 64, 2^-65 a tie, and the number after that one step
    f32 0x1f800000 Strict (u 64 64) (done (pos 1) false) ∷
    f32 0x1f000000 Strict (u 64 64) (done (pos 0) false) ∷
    f32 0x1f000001 Strict (u 64 64) (done (pos 1) false) ∷
    -- the largest finite numbers, 2^128 - 2^104 and 2^1024 - 2^971, end in zeros
    f32 0x7f7fffff Strict (u 64 0) (refused 10) ∷
    f32 0x7f7fffff Wrapping (u 64 0) (done (pos 0) false) ∷
    f64 0xffefffffffffffff Saturating (i 64 0) (done (minus 9223372036854775808) false) ∷
    f64 0x7fefffffffffffff Overflowing (i 64 64) (done (pos 0) true) ∷
    -- 2^63 and the number before it: the ends of 64 bits
    f64 0x43e0000000000000 Strict (i 64 0) (refused 10) ∷
    f64 0xc3e0000000000000 Strict (i 64 0) (done (minus 9223372036854775808) false) ∷
    f64 0x43dfffffffffffff Strict (i 64 0) (done (pos 9223372036854774784) false) ∷
    -- the infinities: to the end of the sign, or 30
    f32 0x7f800000 Saturating (i 8 4) (done (pos 127) false) ∷
    f32 0xff800000 Saturating (i 8 4) (done (minus 128) false) ∷
    f64 0x7ff0000000000000 Saturating (u 64 0) (done (pos 18446744073709551615) false) ∷
    f64 0xfff0000000000000 Saturating (u 64 0) (done (pos 0) false) ∷
    f32 0x7f800000 Strict (i 8 4) (refused 30) ∷
    f32 0xff800000 Wrapping (i 8 4) (refused 30) ∷
    f64 0x7ff0000000000000 Overflowing (u 8 4) (refused 30) ∷
    -- NaN, whatever its sign and payload, in every manner; 1 and 2 go first
    f32 0x7fc00000 Strict (i 8 4) (refused 30) ∷
    f32 0xffffffff Saturating (i 8 4) (refused 30) ∷
    f32 0x7f800001 Wrapping (u 8 4) (refused 30) ∷
    f64 0x7ff0000000000001 Overflowing (i 64 0) (refused 30) ∷
    f64 0xfff8000000000000 Saturating (u 64 0) (refused 30) ∷
    f32 0x7fc00000 Strict (i 9 10) (refused 1) ∷
    f64 0x7ff0000000000000 Strict (u 8 9) (refused 2) ∷
    []

module _ where
  each : map got table ≡ map told table
  unfolding got told is_width fault_of guarded lowest highest fits hold wrap settle with_sign nearest_even nearest_by of_fields pattern_value raw_of_steps infinity
      of_value
  each = refl
