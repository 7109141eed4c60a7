-- Two readings of the standard that agree: what the kit's library says of a pattern of binary32 and binary64 (`lib.Ieee`: `of_bits`) is what the meaning
-- says. Assumes nothing.
use Rattle.std.specs.Prelude.{◌≡◌, Bool, true, false, cond, ℕ, zero, suc, ◌+◌, ◌-◌, ◌*◌, ◌/◌, ◌%◌, ◌^◌, eqb, leb, ℤ, Float}
use Rattle.std.proofs.Common.{subst, mul-one, arith, ne_eqb}
use Rattle.std.specs.Float.{inf, fin, Format, nan as notNumber, binary32 as kit32, binary64 as kit64}
use Rattle.std.specs.Float.Ieee.{up, down, odd, of_bits, of_fields as kitFields}
use Rattle.std.specs.Float.Ieee.Digits.{odd_val}
use Rattle.float.specs.Meaning.{Binary, binary32, binary64, least, Value, nan, infinite, finite, of_fields, pattern_value}

abbrev pub of_kit : Format → Binary
of_kit kit32 = binary32
of_kit kit64 = binary64

-- both are NaN, or the infinity of one sign, or one number: m x 2^e is n steps of 2^-least, and the signs are equal
pub data Agrees (b : Binary) : Float → Value → Type 0 where
  not-numbers : Agrees b notNumber nan
  infinities : {s : Bool} → Agrees b (inf s) (infinite s)
  numbers : {s : Bool} {m : ℕ} {e : ℤ} {n : ℕ} → m * up e * 2 ^ least b ≡ n * down e → Agrees b (fin s m e) (finite s n)

-- the kit writes a number with an odd significand
pub odd-agrees : (b : Binary) (d : ℕ) (s : Bool) (q k : ℕ) → Agrees b (odd d s q k (least b)) (finite s (q * 2 ^ k))
unfolding odd
odd-agrees b d s zero k = numbers (odd_val d s zero k (least b))
odd-agrees b d s (suc q) k = numbers (odd_val d s (suc q) k (least b))

-- ---- the fields of a pattern: no leading one; and the leading one h, with l the exponent of infinities and NaNs
low-agrees : (b : Binary) (d : ℕ) (s : Bool) (t : ℕ) → Agrees b (odd d s t 0 (least b)) (finite s t)
low-agrees b d s t = subst (λ (n : ℕ). Agrees b (odd d s t 0 (least b)) (finite s n)) (mul-one t) (odd-agrees b d s t 0)

high-agrees : (b : Binary) (d h l : ℕ) (s : Bool) (x t : ℕ)
    → Agrees b (cond (eqb (suc x) l) (cond (eqb t 0) (inf s) notNumber) (odd d s (h + t) x (least b)))
    (cond (eqb (suc x) l) (cond (eqb t 0) (infinite s) nan) (finite s ((h + t) * 2 ^ x)))
high-agrees b d h l s x t = go (eqb (suc x) l) (eqb t 0)
  where
    go : (p q : Bool) → Agrees b (cond p (cond q (inf s) notNumber) (odd d s (h + t) x (least b)))
        (cond p (cond q (infinite s) nan) (finite s ((h + t) * 2 ^ x)))
    go true true = infinities
    go true false = not-numbers
    go false q = odd-agrees b d s (h + t) x

not-zero : (x : ℕ) → eqb (suc x) 0 ≡ false
not-zero x = ne_eqb (suc x) 0 (λ z. omega arith)

before : (x : ℕ) → suc x - 1 ≡ x
before x = omega arith

fields-agree : (f : Format) (s : Bool) (x t : ℕ) → Agrees (of_kit f) (kitFields f s x t) (of_fields (of_kit f) s x t)
unfolding kitFields of_fields
fields-agree kit32 s zero t = low-agrees binary32 24 s t
fields-agree kit32 s (suc x) t = rw (not-zero x, before x) (high-agrees binary32 24 (2 ^ 23) (2 ^ 8 - 1) s x t)
fields-agree kit64 s zero t = low-agrees binary64 53 s t
fields-agree kit64 s (suc x) t = rw (not-zero x, before x) (high-agrees binary64 53 (2 ^ 52) (2 ^ 11 - 1) s x t)

-- ---- a pattern
pub pattern-agrees : (f : Format) (x : ℕ) → Agrees (of_kit f) (of_bits f x) (pattern_value (of_kit f) x)
unfolding of_bits pattern_value
pattern-agrees kit32 x =
    let e : x % 2 ^ 31 / 2 ^ 23 ≡ x / 2 ^ 23 % 2 ^ 8 = omega arith in
    subst (λ (n : ℕ). Agrees binary32 (kitFields kit32 (leb (2 ^ 31) x) (x % 2 ^ 31 / 2 ^ 23) (x % 2 ^ 23)) (of_fields binary32 (leb (2 ^ 31) x) n (x % 2 ^ 23)))
    e
    (fields-agree kit32 (leb (2 ^ 31) x) (x % 2 ^ 31 / 2 ^ 23) (x % 2 ^ 23))
pattern-agrees kit64 x =
    let e : x % 2 ^ 63 / 2 ^ 52 ≡ x / 2 ^ 52 % 2 ^ 11 = omega arith in
    subst (λ (n : ℕ). Agrees binary64 (kitFields kit64 (leb (2 ^ 63) x) (x % 2 ^ 63 / 2 ^ 52) (x % 2 ^ 52)) (of_fields binary64 (leb (2 ^ 63) x) n (x % 2 ^ 52)))
    e
    (fields-agree kit64 (leb (2 ^ 63) x) (x % 2 ^ 63 / 2 ^ 52) (x % 2 ^ 52))
