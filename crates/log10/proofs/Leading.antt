-- The guess from the leading zeros. With c the zeros and the fraction bits together, the raw's highest bit stands for 2^(63 - c), and the guess g for
-- 10^(g - 20), the greatest power of ten that is not above it: one test, computed at each c to 127, says so.
-- So 10^(g - 20) is reached and 10^(g - 18) is not, and the power between them decides. Assumes nothing.
use mathlib.Core.Path.{◌≡◌, sym, ap, subst, ◌∙◌}
use mathlib.Core.Bool.{Bool, true, false, cond}
use Prim.Native.Nat.{ℕ, zero, suc, ◌+◌, ◌-◌, ◌*◌, ◌/◌, ◌^◌, ◌≤◌, ◌<◌}
use native.Mathlib.Nat.{pow-zero, pow-suc, mul-one}
use native.Mathlib.Nat.{mul-le-mul_right, le_of_mul-le-mul_right, lt_of_mul-lt-mul_right, mul-lt-mul_of_pos_right}
use native.Mathlib.Numerals.{add-one}
use native.Mathlib.Decide.{dec_le}
use native.Mathlib.Omega.{arith}
use lib.Dec.{T, leb, ltb, leb→le, ltb→lt}
use lib.Pow.{pow_mono, pow-add, pow_pos}
use lib.Count.{count_leading_zeros, leading_top}
use Rattle.laws.specs.Powers.{ten-power}

abbrev pub guess_of : ℕ → ℕ
guess_of c = (20 * 4096 + 1233 * 63 - 1233 * c) / 4096

-- 10^(g - 20) is the greatest power of ten that is not above 2^(63 - c)
abbrev pub Rounded : ℕ → ℕ → Type 0
Rounded c g = (10 ^ g * 2 ^ 64 ≤ 2 ^ (127 - c) * 10 ^ 20) × (2 ^ (127 - c) * 10 ^ 20 < 10 ^ (g + 1) * 2 ^ 64)

-- the test at c, and at each number below n
abbrev right : ℕ → Bool
right c = cond (leb (10 ^ guess_of c * 2 ^ 64) (2 ^ (127 - c) * 10 ^ 20)) (ltb (2 ^ (127 - c) * 10 ^ 20) (10 ^ (guess_of c + 1) * 2 ^ 64)) false

abbrev all : ℕ → Bool
all zero = true
all (suc n) = cond (right n) (all n) false

of_test : (c : ℕ) → T (right c) → Rounded c (guess_of c)
of_test c t = go (leb (10 ^ guess_of c * 2 ^ 64) (2 ^ (127 - c) * 10 ^ 20)) (leb→le (10 ^ guess_of c * 2 ^ 64) (2 ^ (127 - c) * 10 ^ 20)) t
  where
    go : (s : Bool) → (T s → 10 ^ guess_of c * 2 ^ 64 ≤ 2 ^ (127 - c) * 10 ^ 20)
        → T (cond s (ltb (2 ^ (127 - c) * 10 ^ 20) (10 ^ (guess_of c + 1) * 2 ^ 64)) false) → Rounded c (guess_of c)
    go true f t = (f tt, ltb→lt (2 ^ (127 - c) * 10 ^ 20) (10 ^ (guess_of c + 1) * 2 ^ 64) t)
    go false f t = absurd t

below : (n : ℕ) → T (all n) → (c : ℕ) → c < n → Rounded c (guess_of c)
below zero t c h = absurd (omega arith)
below (suc n) t c h = go (right n) (of_test n) (λ a. below n a c) t (dec_le n c)
  where
    go : (s : Bool) → (T s → Rounded n (guess_of n)) → (T (all n) → c < n → Rounded c (guess_of c)) → T (cond s (all n) false) → Dec (n ≤ c)
        → Rounded c (guess_of c)
    go true f g t (yes l) = let e : n ≡ c = omega arith in subst (λ (m : ℕ). Rounded m (guess_of m)) e (f tt)
    go true f g t (no l) = g t (omega arith)
    go false f g t d = absurd t

pub guess-right : (c : ℕ) → c < 128 → Rounded c (guess_of c)
guess-right c h = below 128 tt c h

-- With J the power of two at the highest bit, and P that of 127 - c: P 2^F is J 2^64. Powers are names here, T for 10^20 and W for 2^64.
low-side : (a p f j w t raw : ℕ) → 0 < w → a * w ≤ p * t → p * f ≡ j * w → j ≤ raw → a * f ≤ raw * t
low-side a p f j w t raw h l e m =
    let x = mul-le-mul_right f l in
    let y = mul-le-mul_right (w * t) m in
    let z : p * f * t ≡ j * w * t = ap (λ (n : ℕ). n * t) e in
    let g : a * f * w ≤ raw * t * w = omega arith in
    le_of_mul-le-mul_right g h

high-side : (a p f j w t raw : ℕ) → 0 < f → p * t < a * w → p * f ≡ j * w → raw < j * 2 → raw * t < a * 10 * f
high-side a p f j w t raw h l e m =
    let x = mul-lt-mul_of_pos_right l h in
    let y = mul-le-mul_right (w * t) m in
    let z : p * f * t ≡ j * w * t = ap (λ (n : ℕ). n * t) e in
    let g : raw * t * w < a * 10 * f * w = omega arith in
    lt_of_mul-lt-mul_right w g

module _ (raw f g : ℕ) (h : 0 < raw) (b : raw < 2 ^ 64) (l : f ≤ 64) (r : Rounded (count_leading_zeros 64 raw + f) g) where
  abbrev z : ℕ
  z = count_leading_zeros 64 raw

  top : (j : ℕ) × (z + suc j ≡ 64) × (2 ^ j ≤ raw) × (raw < 2 ^ suc j)
  top = leading_top 64 raw h b

  abbrev j : ℕ
  j = top.0

  parts : 2 ^ (127 - (z + f)) * 2 ^ f ≡ 2 ^ j * 2 ^ 64
  parts =
      let e : 127 - (z + f) + f ≡ j + 64 = omega (arith, top.1) in
      sym (pow-add 2 (127 - (z + f)) f) ∙ ap (λ (n : ℕ). 2 ^ n) e ∙ pow-add 2 j 64

  -- 10^(g - 20) is reached
  pub reached : 10 ^ g * 2 ^ f ≤ raw * 10 ^ 20
  reached = low-side (10 ^ g) (2 ^ (127 - (z + f))) (2 ^ f) (2 ^ j) (2 ^ 64) (10 ^ 20) raw (pow_pos 64) r.0 parts top.2

  -- 10^(g - 18) is not
  pub not-above : raw * 10 ^ 20 < 10 ^ (g + 1 + 1) * 2 ^ f
  not-above =
      let e : 10 ^ (g + 1 + 1) ≡ 10 ^ (g + 1) * 10 = rw (add-one (g + 1), pow-suc) in
      let m : raw < 2 ^ j * 2 = rw pow-suc at top.3 in
      rw e (high-side (10 ^ (g + 1)) (2 ^ (127 - (z + f))) (2 ^ f) (2 ^ j) (2 ^ 64) (10 ^ 20) raw (pow_pos f) r.1 parts m)

  -- and the product of the comparison is a word
  pub fives-fit : raw * 5 ^ (19 - g) < 2 ^ 64
  fives-fit = go (dec_le 19 g)
    where
      go : Dec (19 ≤ g) → raw * 5 ^ (19 - g) < 2 ^ 64
      go (yes m) =
          let e : 19 - g ≡ 0 = omega arith in
          rw (e, pow-zero, mul-one) b
      go (no m) =
          let n = 19 - g in
          let p = 2 ^ (127 - (z + f)) in
          let e : n + (g + 1) ≡ 20 = omega arith in
          let c = ap (λ (k : ℕ). p * k) (ap (λ (k : ℕ). 10 ^ k) (sym e) ∙ pow-add 10 n (g + 1)) in
          let u : p * 10 ^ n * 10 ^ (g + 1) < 2 ^ 64 * 10 ^ (g + 1) = omega (arith, r.1) in
          let v : p * 10 ^ n < 2 ^ 64 = lt_of_mul-lt-mul_right (10 ^ (g + 1)) u in
          let w : 2 ^ suc j ≤ 2 ^ (127 - (z + f) + n) = pow_mono {i = suc j} {j = 127 - (z + f) + n} (omega (arith, top.1)) in
          let x = mul-le-mul_right (5 ^ n) w in
          let y = mul-le-mul_right (5 ^ n) top.3 in
          let a = ap (λ (k : ℕ). p * k) (ten-power n) in
          let d = ap (λ (k : ℕ). k * 5 ^ n) (pow-add 2 (127 - (z + f)) n) in
          omega arith
