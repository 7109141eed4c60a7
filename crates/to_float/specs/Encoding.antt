-- The pattern of n / 2^F as one sum. A number of a fixed-point format is 0 or a normal number of both formats, so the significand has its leading one, and
-- E and T need no cut: the place times 2^(p-1), and the significand on top, whose leading one raises E by one, and by two where rounding has carried.
-- Assumes nothing.
use Rattle.std.specs.Prelude.{◌≡◌, Bool, true, false, cond, ℕ, suc, ◌+◌, ◌-◌, ◌*◌, ◌/◌, ◌^◌, ◌≤◌, ◌<◌, ltb}
use Rattle.std.proofs.Common.{ap, ap₂, ◌∙◌, arith, le_antisymm, lt_of_lt_of_le, mul-div_cancel, mul-le-mul_right, mul-lt-mul_of_pos_right, mul-pos, pow_pos, pow_mono, lt-ltb, le-ltb}
use Rattle.std.proofs.Math.Decide.{dec_le}
use Rattle.std.proofs.Math.Nat.{lt_of_le_of_lt}
use Rattle.std.specs.Int.Count.{count_leading_zeros}
use Rattle.std.proofs.lemmas.Nat.{leading_top}
use Rattle.std.specs.Float.Ieee.{size}
use Rattle.std.specs.Float.Ieee.Digits.{size-lt, size-le}
use Rattle.std.proofs.Math.Pow.{pow-add, pow-lt}
use Rattle.laws.specs.Nearest.{nearest_even, nearest, nearest-scale, nearest-least, nearest-none}
use Rattle.laws.specs.Powers.{power-sub, double}
use Rattle.float.specs.Meaning.{Binary, bias, least}
use Rattle.float.specs.Parts.{binary, Roomy}
use Rattle.to_float.specs.Meaning.{unit, significand, nearest_steps, joined, pattern_by, pattern_of}

-- n has d binary digits
pub record Digits (n d : ℕ) : Type 0 where
  pub some : 1 ≤ d
  pub most : d ≤ 64
  pub low : 2 ^ (d - 1) ≤ n
  pub high : n < 2 ^ d

pub digits-of : (n : ℕ) → 0 < n → n < 2 ^ 64 → Digits n (64 - count_leading_zeros 64 n)
digits-of n h l =
    let t = leading_top 64 n h l in
    let e : 64 - count_leading_zeros 64 n ≡ suc t.0 = omega (arith, t.1) in
    let j : suc t.0 - 1 ≡ t.0 = omega arith in
    rw e (record { some = omega arith; most = omega (arith, t.1); low = rw j t.2; high = t.3 })

-- and no other number of them
size-unique : (n d : ℕ) → 1 ≤ d → 2 ^ (d - 1) ≤ n → n < 2 ^ d → size n ≡ d
size-unique n d h l u = le_antisymm (size-le n d u) (go (dec_le d (size n)))
  where
    go : Dec (d ≤ size n) → d ≤ size n
    go (yes k) = k
    go (no k) = absurd (omega (arith, lt_of_lt_of_le (size-lt n) (pow_mono {i = size n} {j = d - 1} (omega arith))))

-- no more than m where n / d is not (`nearest-least` is the other side)
pub nearest-most : (n d m : ℕ) → 0 < d → n ≤ m * d → nearest_even n d ≤ m
nearest-most n d m g h = go (dec_le (nearest_even n d) m)
  where
    go : Dec (nearest_even n d ≤ m) → nearest_even n d ≤ m
    go (yes l) = l
    go (no l) =
        let more : suc m * d ≤ nearest_even n d * d = mul-le-mul_right d (omega arith) in
        absurd (omega (arith, (nearest n d g).above))

-- ---- the significand of n's p leading digits, from its d digits
module _ (p n d : ℕ) (some : 1 ≤ p) (digits : Digits n d) where
  pub scaled-least : 2 ^ (p - 1) ≤ nearest_even (n * 2 ^ p) (2 ^ d)
  scaled-least =
      nearest-least (n * 2 ^ p) (2 ^ d) (2 ^ (p - 1)) (pow_pos d)
      (rw (double p some, double d digits.some) (omega (arith, mul-le-mul_right (2 ^ (p - 1)) digits.low)))

  pub scaled-most : nearest_even (n * 2 ^ p) (2 ^ d) ≤ 2 ^ p
  scaled-most =
      nearest-most (n * 2 ^ p) (2 ^ d) (2 ^ p) (pow_pos d)
      (omega (arith, mul-lt-mul_of_pos_right digits.high (pow_pos p)))

-- ---- the place and the significand of the meaning, from the digits of n: the last digit of the significand stands so many steps up
abbrev pub place_of : ℕ → ℕ → ℕ → ℕ → ℕ
place_of p w f d = (d + (least (binary p w) - f)) - p

roomy-bias : (p w : ℕ) → Roomy p w → 127 ≤ bias (binary p w)
roomy-bias p w room = omega (arith, pow_mono {i = 7} {j = w - 1} (omega (arith, room.roomy)))

pub roomy-least : (p w : ℕ) → Roomy p w → 125 + p ≤ least (binary p w)
roomy-least p w room = omega (arith, roomy-bias p w room, room.small.some)

module _ (p w n f d : ℕ) (room : Roomy p w) (digits : Digits n d) (frac : f ≤ 64) where
  field-bias : 127 ≤ bias (binary p w)
  field-bias = roomy-bias p w room

  past-frac : 125 + p ≤ least (binary p w)
  past-frac = roomy-least p w room

  steps-digits : size (n * 2 ^ least (binary p w) / 2 ^ f) ≡ d + (least (binary p w) - f)
  steps-digits =
      let l = least (binary p w) in
      let k = l - f in
      let whole : n * 2 ^ l ≡ (n * 2 ^ k) * 2 ^ f = ap (λ (v : ℕ). n * v) (power-sub f l (omega (arith, past-frac))) ∙ omega arith in
      let e : n * 2 ^ l / 2 ^ f ≡ n * 2 ^ k = ap (λ (v : ℕ). v / 2 ^ f) whole ∙ mul-div_cancel (n * 2 ^ k) (pow_pos f) in
      let j : (d + k) - 1 ≡ (d - 1) + k = omega (arith, digits.some) in
      ap size e
      ∙ size-unique (n * 2 ^ k) (d + k) (omega (arith, digits.some))
      (rw (j, pow-add) (mul-le-mul_right (2 ^ k) digits.low))
      (rw pow-add (mul-lt-mul_of_pos_right digits.high (pow_pos k)))

  pub unit-is : unit (binary p w) n f ≡ place_of p w f d
  unit-is = ap (λ (s : ℕ). s - p) steps-digits

  pub significand-is : significand (binary p w) n f ≡ nearest_even (n * 2 ^ p) (2 ^ d)
  significand-is =
      let l = least (binary p w) in
      let g = (l - f) - p in
      let k = 2 ^ f * 2 ^ g in
      let places : (d + (l - f)) - p ≡ d + g = omega (arith, past-frac) in
      let sum : l ≡ (p + g) + f = omega (arith, past-frac) in
      let top : n * 2 ^ l ≡ (n * 2 ^ p) * k =
      ap (λ (v : ℕ). n * v) (ap (λ (i : ℕ). 2 ^ i) sum ∙ pow-add 2 (p + g) f ∙ ap (λ (v : ℕ). v * 2 ^ f) (pow-add 2 p g)) ∙ omega arith in
      let below : 2 ^ f * 2 ^ unit (binary p w) n f ≡ 2 ^ d * k =
      ap (λ (v : ℕ). 2 ^ f * v) (ap (λ (i : ℕ). 2 ^ i) (unit-is ∙ places) ∙ pow-add 2 d g) ∙ omega arith in
      ap₂ nearest_even top below ∙ nearest-scale (n * 2 ^ p) (2 ^ d) k (pow_pos d) (mul-pos (pow_pos f) (pow_pos g))

  -- far from the largest number
  pub steps-below : nearest_steps (binary p w) n f < 2 ^ (least (binary p w) + bias (binary p w) + 1)
  unfolding nearest_steps
  steps-below =
      let l = least (binary p w) in
      let u = unit (binary p w) n f in
      let c : significand (binary p w) n f ≤ 2 ^ p = rw significand-is (scaled-most p n d (omega (arith, room.small.some)) digits) in
      let most : significand (binary p w) n f * 2 ^ u ≤ 2 ^ (p + u) = rw pow-add (mul-le-mul_right (2 ^ u) c) in
      lt_of_le_of_lt most (pow-lt {i = p + u} {j = l + bias (binary p w) + 1} (omega (arith, unit-is, past-frac, field-bias, digits.most)))

  -- E stays below the one of infinities
  pub place-below : place_of p w f d + 2 < 2 ^ w - 1
  place-below = omega (arith, past-frac, field-bias, digits.most, double w (omega (arith, room.roomy)))

-- ---- the sum
by-sum : (p w : ℕ) (neg : Bool) (c k : ℕ) → 1 ≤ p → 2 ^ (p - 1) ≤ c → c ≤ 2 ^ p
    → pattern_by (binary p w) neg c k ≡ cond neg (2 ^ (w + (p - 1))) 0 + (k * 2 ^ (p - 1) + c)
unfolding pattern_by
by-sum p w neg c k some low high = rw (le-ltb c (2 ^ (p - 1)) low) (go (dec_le (suc c) (2 ^ p)))
  where
    h : ℕ
    h = 2 ^ (p - 1)

    s : ℕ
    s = cond neg (2 ^ (w + (p - 1))) 0

    go : Dec (suc c ≤ 2 ^ p) → cond (ltb c (2 ^ p)) (s + (k + 1) * h + (c - h)) (s + (k + 2) * h + 0) ≡ s + (k * h + c)
    go (yes l) = rw (lt-ltb c (2 ^ p) l) (omega arith)
    go (no l) =
        let e : c ≡ 2 ^ p = omega arith in
        rw (le-ltb c (2 ^ p) (omega arith)) (omega (arith, double p some))

module _ (p w n f d : ℕ) (room : Roomy p w) (digits : Digits n d) (frac : f ≤ 64) (neg : Bool) where
  pub pattern-sum : pattern_of (binary p w) neg n f
      ≡ cond neg (2 ^ (w + (p - 1))) 0 + (place_of p w f d * 2 ^ (p - 1) + nearest_even (n * 2 ^ p) (2 ^ d))
  unfolding pattern_of
  pattern-sum =
      let some : 1 ≤ p = omega (arith, room.small.some) in
      let c = nearest_even (n * 2 ^ p) (2 ^ d) in
      rw (lt-ltb (nearest_steps (binary p w) n f) (2 ^ (least (binary p w) + bias (binary p w) + 1)) (steps-below p w n f d room digits frac))
      (ap₂ (λ (v k : ℕ). pattern_by (binary p w) neg v k) (significand-is p w n f d room digits frac) (unit-is p w n f d room digits frac)
      ∙ by-sum p w neg c (place_of p w f d) some (scaled-least p n d some digits) (scaled-most p n d some digits))

  -- the part without the sign is below the sign's bit
  pub sum-below : place_of p w f d * 2 ^ (p - 1) + nearest_even (n * 2 ^ p) (2 ^ d) < 2 ^ (w + (p - 1))
  sum-below =
      let some : 1 ≤ p = omega (arith, room.small.some) in
      let u = place_of p w f d in
      let small : u + 2 < 2 ^ w = omega (arith, place-below p w n f d room digits frac) in
      let over : (u + 2) * 2 ^ (p - 1) < 2 ^ w * 2 ^ (p - 1) = mul-lt-mul_of_pos_right small (pow_pos (p - 1)) in
      rw pow-add (omega (arith, over, scaled-most p n d some digits, double p some))

-- ---- 0, and the sign
pub pattern-zero : (b : Binary) (f : ℕ) → pattern_of b false 0 f ≡ 0
unfolding pattern_of pattern_by nearest_steps
pattern-zero b f =
    let u = unit b 0 f in
    let top = 2 ^ (least b + bias b + 1) in
    let some : 0 < 2 ^ f * 2 ^ u = mul-pos (pow_pos f) (pow_pos u) in
    let c : significand b 0 f ≡ 0 = ap (λ (v : ℕ). nearest_even v (2 ^ f * 2 ^ u)) (omega arith) ∙ nearest-none 0 (2 ^ f * 2 ^ u) (omega arith) in
    rw (c, lt-ltb (0 * 2 ^ u) top (omega (arith, pow_pos (least b + bias b + 1))), lt-ltb 0 (2 ^ (b.precision - 1)) (pow_pos (b.precision - 1)))
    (omega arith)

-- the sign is its bit on top, whatever the number
pub pattern-sign : (b : Binary) (n f : ℕ) → pattern_of b true n f ≡ 2 ^ (b.field + (b.precision - 1)) + pattern_of b false n f
unfolding pattern_of pattern_by
pattern-sign b n f =
    go (ltb (nearest_steps b n f) (2 ^ (least b + bias b + 1))) (ltb (significand b n f) (2 ^ (b.precision - 1))) (ltb (significand b n f) (2 ^ b.precision))
    (unit b n f) (significand b n f) (2 ^ b.field - 1)
  where
    of : (neg : Bool) (x y z : Bool) (u c e : ℕ) → ℕ
    of neg x y z u c e =
        cond x (cond y (joined b neg 0 c) (cond z (joined b neg (u + 1) (c - 2 ^ (b.precision - 1))) (joined b neg (u + 2) 0))) (joined b neg e 0)

    go : (x y z : Bool) (u c e : ℕ) → of true x y z u c e ≡ 2 ^ (b.field + (b.precision - 1)) + of false x y z u c e
    go true true z u c e = omega arith
    go true false true u c e = omega arith
    go true false false u c e = omega arith
    go false y z u c e = omega arith

-- what the code finds of the magnitude alone
pub record Encoded (p w n f r : ℕ) : Type 0 where
  pub pattern : r ≡ pattern_of (binary p w) false n f
  pub below : r < 2 ^ (w + (p - 1))
