-- The magnitude as the code goes about it: one for every pattern, where an infinity counts as 2^64; and the formats that one word holds.
-- Assumes nothing.
use Rattle.std.specs.Prelude.{◌≡◌, refl, Bool, true, false, cond, ℕ, ◌+◌, ◌-◌, ◌*◌, ◌^◌, ◌≤◌, ◌<◌, eqb}
use Rattle.std.proofs.Common.{sym, ◌∙◌, ap₂, subst, arith, pow-add, pow_mono, eqb-true, eq-eqb, ne_eqb}
use Rattle.laws.specs.Nearest.{nearest_even}
use Rattle.wide.specs.declared.Wide.{Wide}
use Rattle.float.specs.Meaning.{Binary, least, biased, trailing, steps, raw_of_steps}
use Rattle.float.specs.Folds.{Folds}

abbrev pub binary : ℕ → ℕ → Binary
binary p w = record { precision = p; field = w }

-- the formats that one word holds
pub record Small (p w : ℕ) : Type 0 where
  pub some : 2 ≤ p
  pub most : p ≤ 53
  pub field-some : 1 ≤ w
  pub field-most : w ≤ 11

-- those of them in which every n / 2^F is 0 or normal, for n below 2^64 and F at most 64
pub record Roomy (p w : ℕ) : Type 0 where
  pub small : Small p w
  pub roomy : 8 ≤ w

-- ---- the magnitude
unfoldable pub magnitude_of : Binary → ℕ → ℕ → ℕ
magnitude_of b f x = cond (eqb (biased b x) (2 ^ b.field - 1)) (2 ^ 64) (raw_of_steps b f (steps b (biased b x) (trailing b x)))

-- ---- one law for each way out of the tests, e and l what the code finds of the pattern
module _ (b : Binary) (x : ℕ) {e l : ℕ} (exponent : e ≡ biased b x) (end : l ≡ 2 ^ b.field - 1) where
  pub at-end : e ≡ l → eqb (biased b x) (2 ^ b.field - 1) ≡ true
  at-end h = eq-eqb (biased b x) (2 ^ b.field - 1) (sym exponent ∙ h ∙ end)

  pub before-end : (e ≡ l → ⊥) → eqb (biased b x) (2 ^ b.field - 1) ≡ false
  before-end h = ne_eqb (biased b x) (2 ^ b.field - 1) (λ z. h (exponent ∙ z ∙ sym end))

  pub folds-infinite : (f : ℕ) → e ≡ l → Folds (magnitude_of b f x) (record { high = 1; low = 0 })
  unfolding magnitude_of
  folds-infinite f h = rw (at-end h) (record { whole = 1; same = omega arith; none = λ z. z; some = λ z. z })

-- ---- a number that is no infinity: its significand m, e - 1 places above the least positive number
pub record Significand (p e t m : ℕ) : Type 0 where
  pub same : m ≡ cond (eqb e 0) t (2 ^ (p - 1) + t)
  pub below : m < 2 ^ 53

module _ (p e t : ℕ) (most : p ≤ 53) (some : 2 ≤ p) (bits : t < 2 ^ (p - 1)) where
  half-below : 2 ^ (p - 1) ≤ 2 ^ 52
  half-below = pow_mono {i = p - 1} {j = 52} (omega arith)

  pub subnormal : e ≡ 0 → Significand p e t t
  subnormal z = record { same = rw z; below = omega (arith, half-below) }

  pub leading-fits : {o : ℕ} → o ≡ 2 ^ (p - 1) → o + t < 2 ^ 53
  leading-fits q = omega (arith, half-below)

  pub leading : {o : ℕ} → (e ≡ 0 → ⊥) → o ≡ 2 ^ (p - 1) → Significand p e t (o + t)
  leading z q = record { same = rw (ne_eqb e 0 z, q); below = leading-fits q }

steps-as : (b : Binary) (e t : ℕ) {m : ℕ} → m ≡ cond (eqb e 0) t (2 ^ (b.precision - 1) + t) → steps b e t ≡ m * 2 ^ (e - 1)
steps-as b e t {m} q = go (eqb e 0) refl q
  where
    go : (z : Bool) → eqb e 0 ≡ z → m ≡ cond z t (2 ^ (b.precision - 1) + t) → cond z t ((2 ^ (b.precision - 1) + t) * 2 ^ (e - 1)) ≡ m * 2 ^ (e - 1)
    go true z q = rw (eqb-true e 0 z) (omega arith)
    go false z q = rw q

pub folds-finite : (b : Binary) (x f : ℕ) {e t l m u d : ℕ} {r : Wide} → e ≡ biased b x → t ≡ trailing b x → l ≡ 2 ^ b.field - 1 → (e ≡ l → ⊥)
    → Significand b.precision e t m → u ≡ e - 1 → d ≡ least b → Folds (nearest_even (m * 2 ^ (f + u)) (2 ^ d)) r → Folds (magnitude_of b f x) r
unfolding magnitude_of raw_of_steps
folds-finite b x f {e} {t} {l} {m} {u} {d} {r} exponent digits end h sig q p folds =
    let powers : m * 2 ^ (f + u) ≡ steps b e t * 2 ^ f = rw (pow-add 2 f u, q, steps-as b e t sig.same) (omega arith) in
    subst (λ (n : ℕ). Folds n r) (ap₂ (λ (n k : ℕ). nearest_even n (2 ^ k)) powers p ∙ sym (rw (before-end b x exponent end h, ← digits, ← exponent))) folds
