-- Document 01's case of the writer, the ends of the formats and the buffers, computed from the meaning. Assumes nothing.
use Rattle.std.specs.Prelude.{◌≡◌, refl, Bool, true, false, ◌&&◌, List, [], ◌∷◌, ◌++◌, map, ℕ, suc, ◌/◌, ◌%◌, ◌^◌, ◌<◌, ltb, ℤ, pos, negsuc, neg_ℤ, nat_abs, replicate}
use Rattle.std.proofs.Common.{sym, ap, ap₂, ◌∙◌, div-le_self, arith, ltb-true}
use Prim.Native.String.{String}
use Rattle.std.specs.Int.Signed.{lt_z}
use Rattle.laws.specs.Diff.{orders}
use Rattle.laws.specs.Tests.{lt-lt_z, le-lt_z}
use Rattle.laws.specs.Text.{bytes}
use Rattle.format.specs.Meaning.{Outcome, done, refused, is_width, fault_of, guarded}
use Rattle.grammar.specs.Run.{both}
use Rattle.decimal.specs.Meaning.{byte_of, whole_by, whole_digits, fraction_by, fraction_digits, sign_text as sign_of}
use Rattle.decimal.specs.Meaning.{whole_text, fraction_text, text_of, raw_text, put, buffer_after, write_of, left_of}
use Rattle.decimal.specs.Digits.{whole-by}

abbrev pub minus : ℕ → ℤ
minus n = neg_ℤ (pos n)

-- a row: the raw, F, and the text of raw / 2^F
infix 80 ◌over◌is◌
pub data Row : Type 0 where
  ◌over◌is◌ : ℤ → ℕ → String → Row

unfoldable pub got : Row → List ℕ
got (raw over f is t) = raw_text raw f

abbrev pub told : Row → List ℕ
told (raw over f is t) = bytes t

abbrev pub table : List Row
table =
    -- document 01: "I1F15 raw 1 is written `0.000030517578125`"
    pos 1 over 15 is "0.000030517578125" ∷
    -- raws 0, 1 and -1 with F = 0, and with F = W
    pos 0 over 0 is "0" ∷
    pos 1 over 0 is "1" ∷
    minus 1 over 0 is "-1" ∷
    pos 0 over 8 is "0" ∷
    pos 1 over 8 is "0.00390625" ∷
    minus 1 over 8 is "-0.00390625" ∷
    pos 0 over 16 is "0" ∷
    pos 1 over 16 is "0.0000152587890625" ∷
    minus 1 over 16 is "-0.0000152587890625" ∷
    pos 0 over 32 is "0" ∷
    pos 1 over 32 is "0.00000000023283064365386962890625" ∷
    minus 1 over 32 is "-0.00000000023283064365386962890625" ∷
    pos 0 over 64 is "0" ∷
    pos 1 over 64 is "0.0000000000000000000542101086242752217003726400434970855712890625" ∷
    minus 1 over 64 is "-0.0000000000000000000542101086242752217003726400434970855712890625" ∷
    -- the ends of the formats: F = 0, a part of W, and F = W, of each width, signed and then unsigned
    minus 128 over 0 is "-128" ∷
    pos 127 over 0 is "127" ∷
    minus 128 over 4 is "-8" ∷
    pos 127 over 4 is "7.9375" ∷
    minus 128 over 8 is "-0.5" ∷
    pos 127 over 8 is "0.49609375" ∷
    pos 255 over 0 is "255" ∷
    pos 255 over 4 is "15.9375" ∷
    pos 255 over 8 is "0.99609375" ∷
    minus 32768 over 0 is "-32768" ∷
    pos 32767 over 0 is "32767" ∷
    minus 32768 over 15 is "-1" ∷
    pos 32767 over 15 is "0.999969482421875" ∷
    minus 32768 over 16 is "-0.5" ∷
    pos 32767 over 16 is "0.4999847412109375" ∷
    pos 65535 over 0 is "65535" ∷
    pos 65535 over 15 is "1.999969482421875" ∷
    pos 65535 over 16 is "0.9999847412109375" ∷
    minus 2147483648 over 0 is "-2147483648" ∷
    pos 2147483647 over 0 is "2147483647" ∷
    minus 2147483648 over 16 is "-32768" ∷
    pos 2147483647 over 16 is "32767.9999847412109375" ∷
    minus 2147483648 over 32 is "-0.5" ∷
    pos 2147483647 over 32 is "0.49999999976716935634613037109375" ∷
    pos 4294967295 over 0 is "4294967295" ∷
    pos 4294967295 over 16 is "65535.9999847412109375" ∷
    pos 4294967295 over 32 is "0.99999999976716935634613037109375" ∷
    minus 9223372036854775808 over 0 is "-9223372036854775808" ∷
    pos 9223372036854775807 over 0 is "9223372036854775807" ∷
    minus 9223372036854775808 over 32 is "-2147483648" ∷
    pos 9223372036854775807 over 32 is "2147483647.99999999976716935634613037109375" ∷
    minus 9223372036854775808 over 64 is "-0.5" ∷
    pos 9223372036854775807 over 64 is "0.4999999999999999999457898913757247782996273599565029144287109375" ∷
    pos 18446744073709551615 over 0 is "18446744073709551615" ∷
    pos 18446744073709551615 over 32 is "4294967295.99999999976716935634613037109375" ∷
    pos 18446744073709551615 over 64 is "0.9999999999999999999457898913757247782996273599565029144287109375" ∷
    -- whole numbers around the powers of ten, and zeros within the digits
    pos 9 over 0 is "9" ∷
    pos 10 over 0 is "10" ∷
    pos 99 over 0 is "99" ∷
    pos 100 over 0 is "100" ∷
    pos 1000 over 0 is "1000" ∷
    pos 10203 over 0 is "10203" ∷
    pos 320 over 4 is "20" ∷
    pos 80000 over 3 is "10000" ∷
    pos 1048577 over 20 is "1.00000095367431640625" ∷
    -- an operand that the format could not hold is the number that it is: -2^63 with F = 8
    minus 9223372036854775808 over 8 is "-36028797018963968" ∷
    []

-- Raws of a word have at most 20 digits, so 19 divisions compute the same text (`whole-by`): the table is computed with these.
abbrev quick : Bool → ℕ → ℕ → List ℕ
quick neg m f = sign_of neg ++ (map byte_of (whole_by 19 (m / 2 ^ f)) ++ fraction_text f (m % 2 ^ f))

abbrev quickly : Row → List ℕ
quickly (raw over f is t) = quick (lt_z raw (pos 0)) (nat_abs raw) f

abbrev short : Row → Bool
short (raw over f is t) = ltb (nat_abs raw) (10 ^ 20)

quick-text : (neg : Bool) (m f : ℕ) → m < 10 ^ 20 → text_of neg m f ≡ quick neg m f
unfolding text_of whole_text
quick-text neg m f h = rw (whole-by 19 (m / 2 ^ f) (omega (arith, div-le_self m (2 ^ f))))

quick-row : (r : Row) → short r ≡ true → got r ≡ quickly r
unfolding got raw_text
quick-row (pos n over f is t) h =
    quick-text false n f (ltb-true n (10 ^ 20) h) ∙ ap (λ (b : Bool). quick b n f) (sym (le-lt_z {a = pos n} {b = pos 0} (omega orders)))
quick-row (negsuc n over f is t) h =
    quick-text true (suc n) f (ltb-true (suc n) (10 ^ 20) h) ∙ ap (λ (b : Bool). quick b (suc n) f) (sym (lt-lt_z {a = negsuc n} {b = pos 0} (omega orders)))

abbrev all_short : List Row → Bool
all_short [] = true
all_short (r ∷ rs) = short r && all_short rs

quick-rows : (rs : List Row) → all_short rs ≡ true → map got rs ≡ map quickly rs
quick-rows [] h = refl
quick-rows (r ∷ rs) h = let t = both (short r) (all_short rs) h in ap₂ (λ (x : List ℕ) (xs : List (List ℕ)). x ∷ xs) (quick-row r t.0) (quick-rows rs t.1)

computed : map quickly table ≡ map told table
unfolding bytes whole_by fraction_by fraction_digits sign_of fraction_text
computed = refl

pub texts : map got table ≡ map told table
texts = quick-rows table refl ∙ computed

-- I1F15 raw 1 into a buffer of n bytes `*`: the answer, and the buffer after it
abbrev pub stars : ℕ → List ℕ
stars n = replicate n 42

abbrev pub answer : ℕ → Outcome
answer n = write_of (pos 1) 16 15 (stars n)

abbrev pub left : ℕ → List ℕ
left n = left_of (pos 1) 16 15 (stars n)

pub record Buffers : Type 0 where
  -- exactly the length; "bytes after the text stay"
  pub exact : answer 17 ≡ done (pos 17) false
  pub exact-left : left 17 ≡ bytes "0.000030517578125"
  pub longer : answer 20 ≡ done (pos 17) false
  pub longer-left : left 20 ≡ bytes "0.000030517578125***"
  -- "A buffer shorter than the text is 5", and stays as it was: one less, and none
  pub shorter : answer 16 ≡ refused 5
  pub shorter-left : left 16 ≡ stars 16
  pub empty : answer 0 ≡ refused 5
  pub empty_left : left 0 ≡ stars 0
  -- 1, then 2, then 5
  pub width-first : write_of (pos 1) 15 16 (stars 0) ≡ refused 1
  pub frac-first : write_of (pos 1) 16 17 (stars 0) ≡ refused 2
  pub frac-left : left_of (pos 1) 16 17 (stars 20) ≡ stars 20

pub buffers : Buffers
unfolding bytes is_width fault_of guarded whole_by whole_digits fraction_by fraction_digits sign_of whole_text fraction_text text_of raw_text put buffer_after write_of
    left_of
buffers =
    record {
      exact = refl;
      exact-left = refl;
      longer = refl;
      longer-left = refl;
      shorter = refl;
      shorter-left = refl;
      empty = refl;
      empty_left = refl;
      width-first = refl;
      frac-first = refl;
      frac-left = refl;
    }
