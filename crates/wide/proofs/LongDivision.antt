-- Long division by steps. A step's quotient q and rest r are the only ones with q * d + r = n and r below d; and a number of two words is divided by
-- dividing its upper word, and then what that leaves before the lower word. Assumes nothing.
use Rattle.std.proofs.Common.{◌≡◌, ℕ, ◌+◌, ◌*◌, ◌/◌, ◌%◌, ◌^◌, ◌<◌, sym, ap, ◌∙◌, le_of_eq, lt_of_lt_of_le, lt_of_le_of_lt, mod-lt, div-lt_iff_lt-mul, add-mul, div-add-mod', mul_right_comm, arith}
use native.Mathlib.Nat.{mul-add-div_right, mul-add-mod_self_right}
use lib.Arith.{digits_lt, digits_div, digits_mod}
use Rattle.wide.specs.declared.Wide.{Wide}
use Rattle.wide.specs.declared.divide.Step.{Step}
use Rattle.wide.specs.Meaning.{value_of}
use Rattle.wide.specs.Promise.{Divided}
use Rattle.wide.specs.Step.{division_step}

-- the one quotient and remainder
pub step_is : (s : Step) (n d : ℕ) → s.quotient * d + s.rest ≡ n → s.rest < d → s ≡ division_step n d
step_is s n d e h =
    let q : s.quotient ≡ n / d = sym (digits_div s.quotient h) ∙ ap (λ (x : ℕ). x / d) e in
    let r : s.rest ≡ n % d = sym (digits_mod s.quotient h) ∙ ap (λ (x : ℕ). x % d) e in
    λ i. record { quotient = q i; rest = r i }

-- what a step tells: the quotient and the remainder by their law
pub told-whole : {s : Step} (n d : ℕ) → s ≡ division_step n d → s.quotient * d + s.rest ≡ n
told-whole n d e = (λ i. (e i).quotient * d + (e i).rest) ∙ div-add-mod' n d

pub told-rest : {s : Step} (n d : ℕ) → s ≡ division_step n d → 0 < d → s.rest < d
told-rest n d e p = lt_of_le_of_lt (le_of_eq (ap (λ (t : Step). t.rest) e)) (mod-lt n p)

-- a high part below d has a quotient of one digit
pub told-quotient : {s : Step} {d : ℕ} (h l : ℕ) → s ≡ division_step (h * 2 ^ 32 + l) d → h < d → l < 2 ^ 32 → s.quotient < 2 ^ 32
told-quotient {s} {d} h l e f g =
    lt_of_le_of_lt (le_of_eq (ap (λ (t : Step). t.quotient) e))
    ((div-lt_iff_lt-mul {k = d} {x = h * 2 ^ 32 + l} {y = 2 ^ 32} (omega arith)).1
    (lt_of_lt_of_le (digits_lt {q = h} {m = d} {r = l} {c = 2 ^ 32} f g) (omega arith)))

-- a number below d is its own rest
pub below : {x d : ℕ} → x < d → (record { quotient = 0; rest = x }) ≡ division_step x d
below {x} {d} h = step_is (record { quotient = 0; rest = x }) x d (omega arith) h

-- x by d: the quotient of the upper word goes before, and what it leaves goes before the lower word
module _ (x : Wide) (d : ℕ) where
  carry : value_of x ≡ x.high / d * 2 ^ 64 * d + (x.high % d * 2 ^ 64 + x.low)
  carry =
      let spread : x.high * 2 ^ 64 ≡ x.high / d * 2 ^ 64 * d + x.high % d * 2 ^ 64 =
      ap (λ (n : ℕ). n * 2 ^ 64) (sym (div-add-mod' x.high d)) ∙ add-mul (x.high / d * d) (x.high % d) (2 ^ 64)
      ∙ ap (λ (n : ℕ). n + x.high % d * 2 ^ 64) (mul_right_comm (x.high / d) d (2 ^ 64)) in
      omega arith

  pub two_steps : {t s : Step} → 0 < d → t ≡ division_step x.high d → s ≡ division_step (t.rest * 2 ^ 64 + x.low) d
      → Divided x d (record { quotient = record { high = t.quotient; low = s.quotient }; rest = s.rest })
  two_steps p f e =
      let g = e ∙ ap (λ (t : Step). division_step (t.rest * 2 ^ 64 + x.low) d) f in
      record {
        quotient =
            (λ i. (f i).quotient * 2 ^ 64 + (g i).quotient)
            ∙ sym (ap (λ (n : ℕ). n / d) carry ∙ mul-add-div_right {m = d} p (x.high / d * 2 ^ 64) (x.high % d * 2 ^ 64 + x.low));
        rest =
            ap (λ (t : Step). t.rest) g ∙ sym (ap (λ (n : ℕ). n % d) carry ∙ mul-add-mod_self_right (x.high / d * 2 ^ 64) d (x.high % d * 2 ^ 64 + x.low));
      }

  -- where the upper word is 0, the lower one is the number
  pub one-step : {q : Wide} → x.high ≡ 0 → value_of q ≡ x.low / d → Divided x d (record { quotient = q; rest = x.low % d })
  one-step z h =
      let e : x.low ≡ value_of x = omega arith in
      record { quotient = h ∙ ap (λ (n : ℕ). n / d) e; rest = ap (λ (n : ℕ). n % d) e }
