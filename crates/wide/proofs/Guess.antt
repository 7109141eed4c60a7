-- One digit of a quotient from a guess by the upper half of the divisor: a guess that is one or two too high is made right by giving one d back for
-- each. The products by the guess are unknowns, so that each case is linear. Assumes nothing.
use Rattle.std.proofs.Common.{◌≡◌, ℕ, ◌+◌, ◌-◌, ◌*◌, ◌/◌, ◌%◌, ◌^◌, ◌<◌, ◌≤◌, sym, ap, ◌∙◌, mod-lt, mul_assoc, div-lt_iff_lt-mul, add-mul, mul-le-mul, lt_of_mul-lt-mul_right, div-add-mod', mul-add, sub-add_cancel, arith}
use Rattle.wide.specs.Step.{division_step}
use Rattle.wide.proofs.LongDivision.{step_is}

-- q less k, and k times d given back
less_by : (k q d : ℕ) → k ≤ q → (q - k) * d + k * d ≡ q * d
less_by k q d h = sym (add-mul (q - k) k d) ∙ ap (λ (x : ℕ). x * d) (sub-add_cancel {n = q} {m = k} h)

-- a step divides h * 2 ^ 32 + l by a d with its top bit set, whose lower half is d₀
pub record Digit (h l d d₀ : ℕ) : Type 0 where
  pub top : 2 ^ 63 ≤ d
  pub below : h < d
  pub small : l < 2 ^ 32
  pub half : d₀ ≡ d % 2 ^ 32

module _ {h l d d₀ : ℕ} (given : Digit h l d d₀) where
  abbrev guess : ℕ
  guess = h / (d / 2 ^ 32)

  abbrev there : ℕ
  there = h % (d / 2 ^ 32) * 2 ^ 32 + l

  abbrev back : ℕ
  back = guess * d₀

  -- the guess passes the quotient by two at most, since the upper half of d has its top bit set
  guess-le : guess ≤ 2 ^ 32 + 1
  guess-le =
      let t : guess < 2 ^ 32 + 2 = (div-lt_iff_lt-mul {k = d / 2 ^ 32} {x = h} {y = 2 ^ 32 + 2} (omega arith)).1 (omega arith) in
      omega arith

  pub back-lt : back < 2 ^ 64
  back-lt =
      let t : back ≤ (2 ^ 32 + 1) * 0xffff_ffff = mul-le-mul {n₁ = guess} {m₁ = d₀} {n₂ = 2 ^ 32 + 1} {m₂ = 0xffff_ffff} guess-le (omega arith) in
      omega arith

  -- the number divided, and what is to be taken back, are the guess times d and what is there
  whole : h * 2 ^ 32 + l + back ≡ guess * d + there
  whole =
      let halves : d ≡ d / 2 ^ 32 * 2 ^ 32 + d₀ = omega arith in
      let spread : guess * d ≡ guess * (d / 2 ^ 32) * 2 ^ 32 + back = ap (λ (x : ℕ). guess * x) halves ∙ mul-add guess (d / 2 ^ 32 * 2 ^ 32) d₀
      ∙ ap (λ (x : ℕ). x + back) (sym (mul_assoc guess (d / 2 ^ 32) (2 ^ 32))) in
      omega (arith, div-add-mod' h (d / 2 ^ 32))

  -- and there is less than d, so the guess is right where enough is there to take back
  there-lt : there < d
  there-lt = omega (arith, mod-lt h {m = d / 2 ^ 32} (omega arith))

  pub right : back ≤ there → (record { quotient = guess; rest = there - back }) ≡ division_step (h * 2 ^ 32 + l) d
  right t = step_is (record { quotient = guess; rest = there - back }) (h * 2 ^ 32 + l) d (omega (arith, whole)) (omega (arith, there-lt))

  -- else it is one too high where one d is enough, and two where it is not
  module _ (t : there < back) where
    pub guess-pos : 0 < guess
    guess-pos = lt_of_mul-lt-mul_right d {m = 0} {n = guess} (omega (arith, whole))

    pub one_less : back - there ≤ d → (record { quotient = guess - 1; rest = d - (back - there) }) ≡ division_step (h * 2 ^ 32 + l) d
    one_less u =
        step_is (record { quotient = guess - 1; rest = d - (back - there) }) (h * 2 ^ 32 + l) d (omega (arith, whole, less_by 1 guess d guess-pos))
        (omega arith)

    module _ (u : d < back - there) where
      pub guess-more : 1 < guess
      guess-more = lt_of_mul-lt-mul_right d {m = 1} {n = guess} (omega (arith, whole))

      pub rest_le : back - there - d ≤ d
      rest_le = omega (arith, back-lt)

      pub two-less : (record { quotient = guess - 2; rest = d - (back - there - d) }) ≡ division_step (h * 2 ^ 32 + l) d
      two-less =
          step_is (record { quotient = guess - 2; rest = d - (back - there - d) }) (h * 2 ^ 32 + l) d
          (omega (arith, whole, less_by 2 guess d guess-more, rest_le)) (omega (arith, rest_le))
