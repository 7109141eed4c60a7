-- Two words by one word d. Shifting the number and d by the k that brings d's top bit to the top leaves the quotient, and two digits are the whole of it.
-- Assumes nothing.
use Rattle.std.proofs.Common.{◌≡◌, ℕ, suc, ◌+◌, ◌*◌, ◌/◌, ◌%◌, ◌^◌, ◌<◌, ◌≤◌, sym, ap, ◌∙◌, subst, le_trans, lt_trans, le_of_eq, lt_of_lt_of_le, le-add_right, lt_of_le_of_lt, mul-le-mul_right, mod-eq_of_lt, mul_assoc, div-lt_iff_lt-mul, add-mul, lt_of_mul-lt-mul_right, mul-lt-mul_of_pos_right, mul_right_comm, mul-div_cancel, arith, pow_pos, pow-add, shl_lt}
use native.Mathlib.Nat.{mul-add-div_right}
use lib.Arith.{digits_lt}
use lib.Count.{count_leading_zeros, leading_top}
use Rattle.wide.specs.declared.Wide.{Wide}
use Rattle.wide.specs.declared.divide.Step.{Step}
use Rattle.wide.specs.Meaning.{value_of}
use Rattle.wide.specs.Step.{division_step}
use Rattle.wide.proofs.LongDivision.{step_is, told-whole, told-rest, told-quotient}

-- shifted by k, d has its top bit set and still fits a word
pub record Normal (d k : ℕ) : Type 0 where
  pub short : k < 64
  pub top : 2 ^ 63 ≤ d * 2 ^ k
  pub fits : d * 2 ^ k < 2 ^ 64

pub normal : (d : ℕ) → 0 < d → d < 2 ^ 64 → Normal d (count_leading_zeros 64 d)
normal d p f = go (leading_top 64 d p f)
  where
    go : (j : ℕ) × (count_leading_zeros 64 d + suc j ≡ 64) × (2 ^ j ≤ d) × (d < 2 ^ suc j) → Normal d (count_leading_zeros 64 d)
    go t =
        let k : ℕ = count_leading_zeros 64 d in
        let j : ℕ = t.0 in
        let e : j + k ≡ 63 = omega arith in
        let g : suc j + k ≡ 64 = omega arith in
        record {
          short = omega arith;
          top = subst (λ (n : ℕ). 2 ^ n ≤ d * 2 ^ k) e (le_trans (le_of_eq (pow-add 2 j k)) (mul-le-mul_right (2 ^ k) t.2));
          fits = subst (λ (n : ℕ). d * 2 ^ k < 2 ^ n) g (shl_lt (suc j) k t.3);
        }

-- x is the number h * 2 ^ 64 + l shifted by k, and b is d shifted by k
pub record Shifted (h l d k b : ℕ) (x : Wide) : Type 0 where
  pub below : h < d
  pub fits : l < 2 ^ 64
  pub norm : Normal d k
  pub by : b ≡ d * 2 ^ k
  pub value : value_of x ≡ (h * 2 ^ 64 + l) * 2 ^ k % 2 ^ 128

-- s is the first digit, and m the lower half of the lower word
pub record First (x : Wide) (b m : ℕ) (s : Step) : Type 0 where
  pub fits : x.low < 2 ^ 64
  pub half : m ≡ x.low % 2 ^ 32
  pub is : s ≡ division_step (x.high * 2 ^ 32 + x.low / 2 ^ 32) b

module _ {h l d k b : ℕ} {x : Wide} (given : Shifted h l d k b x) where
  small : (h * 2 ^ 64 + l) * 2 ^ k < b * 2 ^ 64
  small =
      lt_of_lt_of_le (mul-lt-mul_of_pos_right (digits_lt {q = h} {m = d} {r = l} {c = 2 ^ 64} given.below given.fits) (pow_pos k))
      (le_of_eq (mul_right_comm d (2 ^ 64) (2 ^ k) ∙ ap (λ (n : ℕ). n * 2 ^ 64) (sym given.by)))

  b-fits : b < 2 ^ 64
  b-fits = lt_of_le_of_lt (le_of_eq given.by) given.norm.fits

  pub b-top : 2 ^ 63 ≤ b
  b-top = le_trans given.norm.top (le_of_eq (sym given.by))

  -- nothing is lost by the shift
  exact : value_of x ≡ (h * 2 ^ 64 + l) * 2 ^ k
  exact = given.value ∙ mod-eq_of_lt (lt_trans small (mul-lt-mul_of_pos_right {m = b} {n = 2 ^ 64} {k = 2 ^ 64} b-fits (pow_pos 64)))

  pub high-below : x.high < b
  high-below = lt_of_mul-lt-mul_right (2 ^ 64) (lt_of_le_of_lt (le-add_right (x.high * 2 ^ 64) x.low) (lt_of_le_of_lt (le_of_eq exact) small))

  -- the two digits
  module _ {m : ℕ} {s : Step} (one : First x b m s) where
    pub first-lt : s.quotient < 2 ^ 32
    first-lt = told-quotient x.high (x.low / 2 ^ 32) one.is high-below (omega arith)

    pub rest_below : s.rest < b
    rest_below = told-rest (x.high * 2 ^ 32 + x.low / 2 ^ 32) b one.is (omega (arith, b-top))

    module _ {t : Step} (et : t ≡ division_step (s.rest * 2 ^ 32 + m) b) where
      pub second_lt : t.quotient < 2 ^ 32
      second_lt = told-quotient s.rest m et rest_below (omega arith)

      digits : (s.quotient * 2 ^ 32 + t.quotient) * b + t.rest ≡ value_of x
      digits =
          let spread : (s.quotient * 2 ^ 32 + t.quotient) * b ≡ s.quotient * b * 2 ^ 32 + t.quotient * b = add-mul (s.quotient * 2 ^ 32) t.quotient b
          ∙ ap (λ (n : ℕ). n + t.quotient * b) (mul_right_comm s.quotient (2 ^ 32) b) in
          omega (arith, told-whole (x.high * 2 ^ 32 + x.low / 2 ^ 32) b one.is, told-whole (s.rest * 2 ^ 32 + m) b et)

      pub both : (record { quotient = s.quotient * 2 ^ 32 + t.quotient; rest = t.rest / 2 ^ k }) ≡ division_step (h * 2 ^ 64 + l) d
      both =
          let q : ℕ = s.quotient * 2 ^ 32 + t.quotient in
          let scaled : q * d * 2 ^ k + t.rest
          ≡ (h * 2 ^ 64 + l) * 2 ^ k = ap (λ (n : ℕ). n + t.rest) (mul_assoc q d (2 ^ k) ∙ ap (λ (n : ℕ). q * n) (sym given.by)) ∙ digits ∙ exact in
          step_is (record { quotient = q; rest = t.rest / 2 ^ k }) (h * 2 ^ 64 + l) d
          (sym (mul-add-div_right {m = 2 ^ k} (pow_pos k) (q * d) t.rest) ∙ ap (λ (n : ℕ). n / 2 ^ k) scaled ∙ mul-div_cancel (h * 2 ^ 64 + l) (pow_pos k))
          ((div-lt_iff_lt-mul {k = 2 ^ k} {x = t.rest} {y = d} (pow_pos k)).1
          (lt_of_lt_of_le (told-rest (s.rest * 2 ^ 32 + m) b et (omega (arith, b-top))) (le_of_eq given.by)))
