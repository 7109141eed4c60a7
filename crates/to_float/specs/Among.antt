-- IEEE 754-2019, clause 4.3.1, "roundTiesToEven", of the pattern given, for every number and F, and p and w from 2 on:
-- no finite pattern's number is nearer, at a tie the significand is even, and no other number is both; from
-- 2^emax x (2 - 2^-p) on it is the infinity. Idea: finite numbers have at most p significant bits, and `Near` finds the
-- nearest of those. Assumes nothing.
use Rattle.std.specs.Prelude.{◌≡◌, refl, Bool, true, false, not, cond, ◌↔◌, eqb, ℤ, negsuc, nat_abs, ◌-ℤ◌, ◌*ℤ◌}
use Rattle.std.proofs.Common.{sym, ap, ◌∙◌, mul-le-mul, mul-lt-mul_of_pos_right, mod-lt, le_antisymm, lt_of_not-le, arith, pow_pos, pow_mono, pow-add, lt-ltb}
use Rattle.std.proofs.Math.Path.{ap₂}
use Prim.Native.Nat.{ℕ, ◌+◌, ◌-◌, ◌*◌, ◌%◌, ◌^◌, ◌≤◌, ◌<◌}
use Rattle.std.proofs.Math.Decide.{dec_le, ℕ_discrete}
use Rattle.std.proofs.Math.Nat.{eq_of_mul-eq-mul_right}
use Rattle.std.proofs.Math.IntN.{pos}
use Rattle.std.specs.Int.Signed.{lt_z}
use Rattle.laws.specs.Bound.{abs_neg}
use Rattle.laws.specs.Diff.{up, dn, sub_out}
use Rattle.laws.specs.Order.{mul-out}
use Rattle.laws.specs.Powers.{double}
use Rattle.format.specs.Meaning.{with_sign}
use Rattle.format.specs.Place.{sign-out}
use Rattle.float.specs.Meaning.{Binary, binary32, binary64, bias, least, negative, biased, trailing}
use Rattle.float.specs.Meaning.{nan, infinite, finite, of_fields, pattern_value}
use Rattle.float.specs.Parts.{binary, Roomy}
use Rattle.to_float.specs.Meaning.{significand, nearest_steps, rounded_value, pattern_of}
use Rattle.to_float.specs.Encoding.{roomy-least}
use Rattle.to_float.specs.Theorems.{Short, past, fields-of, field-trailing, sign-back, roomy-32, roomy-64}
use Rattle.to_float.specs.Theorems.{pattern-finite, pattern-infinite, pattern-rounded}
use Rattle.to_float.specs.Near.{gap, same-nearest, same-tie, steps-past}

-- ---- the rule. How far v steps of 2^-least are from a / 2^f, both times 2^least x 2^f
unfoldable pub distance : Binary → ℕ → ℤ → ℤ → ℕ
distance b f a v = nat_abs (v *ℤ pos (2 ^ f) -ℤ a *ℤ pos (2 ^ least b))

-- the pattern x stands for a finite number of sign neg; no finite pattern's number is nearer to a / 2^f; and where
-- another number is as near, the significand of x is even, which is to say T is: the leading one stands p - 1 places up
pub record NearestOf (b : Binary) (f : ℕ) (a : ℤ) (neg : Bool) (x : ℕ) : Type 0 where
  pub count : ℕ
  pub given : pattern_value b x ≡ finite neg count
  pub none-nearer : (y : ℕ) (s : Bool) (k : ℕ) → pattern_value b y ≡ finite s k
      → distance b f a (with_sign neg count) ≤ distance b f a (with_sign s k)
  pub tie-even : (y : ℕ) (s : Bool) (k : ℕ) → pattern_value b y ≡ finite s k → (with_sign s k ≡ with_sign neg count → ⊥)
      → distance b f a (with_sign s k) ≡ distance b f a (with_sign neg count) → trailing b x % 2 ≡ 0

-- "magnitude at least b^emax (b - 1/2 b^(1-p))": n / 2^f is at least 2^emax x (2 - 2^-p), both times 2^f x 2^p
abbrev pub PastLargest : Binary → ℕ → ℕ → Type 0
PastLargest b n f = 2 ^ bias b * (2 ^ (b.precision + 1) - 1) * 2 ^ f ≤ n * 2 ^ b.precision

-- ---- the numbers of patterns have at most p significant bits, and the leading digits are even where T is
pub record FiniteParts (b : Binary) (y k : ℕ) : Type 0 where
  pub short : Short b.precision k
  pub even : trailing b y % 2 ≡ 0 → short.leading % 2 ≡ 0

pub finite-short : (b : Binary) (y : ℕ) (s : Bool) (k : ℕ) → 2 ≤ b.precision → pattern_value b y ≡ finite s k → FiniteParts b y k
unfolding pattern_value of_fields
finite-short b y s k some = go (eqb e (2 ^ b.field - 1)) (eqb t 0) (eqb e 0)
  where
    n : Bool
    n = negative b y

    e : ℕ
    e = biased b y

    t : ℕ
    t = trailing b y

    h : ℕ
    h = 2 ^ (b.precision - 1)

    low : t < h
    low = mod-lt y (pow_pos (b.precision - 1))

    twice : 2 ^ b.precision ≡ h * 2
    twice = double b.precision (omega arith)

    go : (u v z : Bool)
        → cond u (cond v (infinite n) nan) (finite n (cond z t ((h + t) * 2 ^ (e - 1)))) ≡ finite s k
        → FiniteParts b y k
    go true true z q = let j : ◌≡◌ {A = ℕ} 0 1 = cc in absurd (omega arith)
    go true false z q = let j : ◌≡◌ {A = ℕ} 0 1 = cc in absurd (omega arith)
    go false v true q =
        let j : t ≡ k = cc in
        record {
          short = record { leading = t; zeros = 0; made = omega arith; few = omega (arith, low, twice) };
          even = λ i. i;
        }
    go false v false q =
        let j : (h + t) * 2 ^ (e - 1) ≡ k = cc in
        record {
          short = record { leading = h + t; zeros = e - 1; made = sym j; few = omega (arith, low, twice) };
          even = λ i. omega (arith, double (b.precision - 1) (omega arith));
        }

-- ---- the distance, by the signs
abs-gap : (z : ℤ) (a b : ℕ) → up z + b ≡ a + dn z → nat_abs z ≡ gap a b
abs-gap (pos n) a b e = omega arith
abs-gap (negsuc n) a b e = omega arith

sign-abs : (s : Bool) (n : ℕ) → nat_abs (with_sign s n) ≡ n
unfolding with_sign
sign-abs true n = abs_neg n
sign-abs false n = refl

sign_zero : (s : Bool) → with_sign s 0 ≡ with_sign (not s) 0
unfolding with_sign
sign_zero true = refl
sign_zero false = refl

signs : (P : Bool → Type 0) (neg : Bool) → P neg → P (not neg) → (s : Bool) → P s
signs P true x y true = x
signs P true x y false = y
signs P false x y true = y
signs P false x y false = x

module _ (b : Binary) (f n k : ℕ) where
  distance-out : (neg s : Bool) → distance b f (with_sign neg n) (with_sign s k)
      ≡ gap (cond s 0 k * 2 ^ f + cond neg n 0 * 2 ^ least b) (cond s k 0 * 2 ^ f + cond neg 0 n * 2 ^ least b)
  unfolding distance
  distance-out neg s =
      let v = with_sign s k in
      let a = with_sign neg n in
      let x = v *ℤ pos (2 ^ f) in
      let y = a *ℤ pos (2 ^ least b) in
      let more = ap₂ (λ (i j : ℕ). i * 2 ^ f + j * 2 ^ least b) (sign-out s k).0 (sign-out neg n).1 in
      let less = ap₂ (λ (i j : ℕ). i * 2 ^ f + j * 2 ^ least b) (sign-out s k).1 (sign-out neg n).0 in
      let p = mul-out v (2 ^ f) in
      let q = mul-out a (2 ^ least b) in
      abs-gap (x -ℤ y) (up x + dn y) (dn x + up y) (sub_out x y) ∙ ap₂ gap (rw (p.0, q.1) more) (rw (p.1, q.0) less)

  distance-same : (neg : Bool) → distance b f (with_sign neg n) (with_sign neg k) ≡ gap (k * 2 ^ f) (n * 2 ^ least b)
  distance-same true = distance-out true true ∙ omega arith
  distance-same false = distance-out false false ∙ omega arith

  distance-other : (neg : Bool) → distance b f (with_sign neg n) (with_sign (not neg) k) ≡ k * 2 ^ f + n * 2 ^ least b
  distance-other true = distance-out true false ∙ omega arith
  distance-other false = distance-out false true ∙ omega arith

-- ---- n / 2^f rounded, as if there were no largest number, among both signs
module _ (b : Binary) (n f : ℕ) (some : 1 ≤ b.precision) (neg : Bool) where
  abbrev m : ℕ
  m = nearest_steps b n f

  abbrev from : ℤ → ℕ
  from = distance b f (with_sign neg n)

  zero-short : Short b.precision 0
  zero-short = record { leading = 0; zeros = 0; made = omega arith; few = pow_pos b.precision }

  steps-nearest : (s : Bool) (k : ℕ) → Short b.precision k → from (with_sign neg m) ≤ from (with_sign s k)
  steps-nearest s k short =
      rw (distance-same b f n m neg)
      (signs (λ s. gap (m * 2 ^ f) (n * 2 ^ least b) ≤ from (with_sign s k)) neg
      (rw (distance-same b f n k neg) (same-nearest b n f some k short))
      (rw (distance-other b f n k neg) (omega (arith, same-nearest b n f some 0 zero-short)))
      s)

  -- of the other sign only 0 can be as near
  other-tie : (k : ℕ) → (with_sign (not neg) k ≡ with_sign neg m → ⊥)
      → k * 2 ^ f + n * 2 ^ least b ≡ gap (m * 2 ^ f) (n * 2 ^ least b) → significand b n f % 2 ≡ 0
  other-tie k other e =
      let near = same-nearest b n f some 0 zero-short in
      let z : k ≡ 0 = eq_of_mul-eq-mul_right (2 ^ f) (pow_pos f) k 0 (omega arith) in
      let none : 0 ≡ m → ⊥ = λ j. other (ap (with_sign (not neg)) z ∙ sym (sign_zero neg) ∙ ap (with_sign neg) j) in
      (same-tie b n f some 0 zero-short none (omega (arith, ap (λ (v : ℕ). v * 2 ^ f) z))).0

  steps-tie : (s : Bool) (k : ℕ) → Short b.precision k → (with_sign s k ≡ with_sign neg m → ⊥)
      → from (with_sign s k) ≡ from (with_sign neg m) → significand b n f % 2 ≡ 0
  steps-tie s k short = signs Even neg one two s
    where
      Even : Bool → Type 0
      Even s =
          (with_sign s k ≡ with_sign neg m → ⊥) → from (with_sign s k) ≡ from (with_sign neg m) → significand b n f % 2 ≡ 0

      at : from (with_sign neg m) ≡ gap (m * 2 ^ f) (n * 2 ^ least b)
      at = distance-same b f n m neg

      one : Even neg
      one other e =
          (same-tie b n f some k short (λ z. other (ap (with_sign neg) z)) (sym (distance-same b f n k neg) ∙ e ∙ at)).0

      two : Even (not neg)
      two other e = other-tie k other (sym (distance-other b f n k neg) ∙ e ∙ at)

-- ---- the pattern given
module _ (p w : ℕ) (some : 2 ≤ p) (field : 2 ≤ w) (neg : Bool) (n f : ℕ) where
  abbrev b : Binary
  b = binary p w

  abbrev x : ℕ
  x = pattern_of b neg n f

  -- "shall round to ∞ with no change in sign", and nothing else does
  pub infinite-rule : (pattern_value b (pattern_of b neg n f) ≡ infinite neg) ↔ PastLargest b n f
  infinite-rule = (
    λ e. (steps-past p w some field n f).0 (go e (dec_le (past b) (nearest_steps b n f))),
    λ h. pattern-infinite p w some field neg n f ((steps-past p w some field n f).1 h),
  )
    where
      go : pattern_value b x ≡ infinite neg → Dec (past b ≤ nearest_steps b n f) → past b ≤ nearest_steps b n f
      go e (yes h) = h
      go e (no h) =
          let q = sym e ∙ pattern-finite p w some field neg n f (omega arith) in
          let z : ◌≡◌ {A = ℕ} 0 1 = cc in
          absurd (omega arith)

  pub rounded-rule : (rounded_value b neg n f ≡ infinite neg) ↔ PastLargest b n f
  rounded-rule =
      let e = pattern-rounded p w some field neg n f in
      (λ h. infinite-rule.0 (e ∙ h), λ h. sym e ∙ infinite-rule.1 h)

  last-even : nearest_steps b n f < past b → significand b n f % 2 ≡ 0 → trailing b x % 2 ≡ 0
  unfolding pattern_of
  last-even h even =
      let r = fields-of p w some field neg n f h in
      let last = field-trailing p w neg r.e r.t r.low (omega (arith, r.most)) in
      rw (lt-ltb (nearest_steps b n f) (past b) h, r.made, last) (r.even even)

  -- else it is the nearest
  pub nearest-all : (PastLargest b n f → ⊥) → NearestOf b f (with_sign neg n) neg (pattern_of b neg n f)
  nearest-all within =
      let h : nearest_steps b n f < past b = lt_of_not-le (λ l. within ((steps-past p w some field n f).0 l)) in
      let one : 1 ≤ p = omega arith in
      record {
        count = nearest_steps b n f;
        given = pattern-finite p w some field neg n f h;
        none-nearer = λ y s k e. steps-nearest b n f one neg s k (finite-short b y s k some e).short;
        tie-even = λ y s k e other q.
            last-even h (steps-tie b n f one neg s k (finite-short b y s k some e).short other q);
      }

  -- and no other number is
  pub nearest-only : (PastLargest b n f → ⊥) → (y : ℕ) → NearestOf b f (with_sign neg n) neg y
      → pattern_value b y ≡ pattern_value b (pattern_of b neg n f)
  unfolding nearest-all
  nearest-only within y r = go (ℕ_discrete r.count (nearest_steps b n f))
    where
      m : ℕ
      m = nearest_steps b n f

      o : NearestOf b f (with_sign neg n) neg x
      o = nearest-all within

      go : Dec (r.count ≡ m) → pattern_value b y ≡ pattern_value b x
      go (yes e) = r.given ∙ ap (finite neg) e ∙ sym o.given
      go (no other) =
          let k = r.count in
          let t = finite-short b y neg k some r.given in
          let same = le_antisymm (r.none-nearer x neg m o.given) (o.none-nearer y neg k r.given) in
          let apart : with_sign neg m ≡ with_sign neg k → ⊥ =
          λ z. other (sym (sign-abs neg k) ∙ ap nat_abs (sym z) ∙ sign-abs neg m) in
          let gaps = sym (distance-same b f n k neg) ∙ same ∙ distance-same b f n m neg in
          let even = t.even (r.tie-even x neg m o.given apart (sym same)) in
          absurd ((same-tie b n f (omega arith) k t.short other gaps).1 even)

-- ---- raws: none is past the largest number
within-raw : (p w n f : ℕ) → Roomy p w → n < 2 ^ 64 → PastLargest (binary p w) n f → ⊥
within-raw p w n f room word h =
    let high = pow_mono {i = 64} {j = bias (binary p w)} (omega (arith, roomy-least p w room)) in
    let ones : 2 ^ p ≤ 2 ^ (p + 1) - 1 = omega (arith, pow-add 2 p 1, pow_pos p) in
    omega (arith, mul-le-mul (mul-le-mul high ones) (pow_pos f), mul-lt-mul_of_pos_right word (pow_pos p))

-- what `to_float_of` answers for the raw a
pub nearest-raw : (p w : ℕ) → Roomy p w → (a : ℤ) (f : ℕ) → nat_abs a < 2 ^ 64
    → NearestOf (binary p w) f a (lt_z a (pos 0)) (pattern_of (binary p w) (lt_z a (pos 0)) (nat_abs a) f)
nearest-raw p w room a f word =
    let some = room.small.some in
    let field : 2 ≤ w = omega (arith, room.roomy) in
    rw sign-back at (nearest-all p w some field (lt_z a (pos 0)) (nat_abs a) f (within-raw p w (nat_abs a) f room word))

-- ---- the two formats
module _ (neg : Bool) (n f : ℕ) where
  pub nearest-32 : (PastLargest binary32 n f → ⊥)
      → NearestOf binary32 f (with_sign neg n) neg (pattern_of binary32 neg n f)
  nearest-32 = nearest-all 24 8 (omega arith) (omega arith) neg n f

  pub nearest-64 : (PastLargest binary64 n f → ⊥)
      → NearestOf binary64 f (with_sign neg n) neg (pattern_of binary64 neg n f)
  nearest-64 = nearest-all 53 11 (omega arith) (omega arith) neg n f

  pub infinite-32 : (pattern_value binary32 (pattern_of binary32 neg n f) ≡ infinite neg) ↔ PastLargest binary32 n f
  infinite-32 = infinite-rule 24 8 (omega arith) (omega arith) neg n f

  pub infinite-64 : (pattern_value binary64 (pattern_of binary64 neg n f) ≡ infinite neg) ↔ PastLargest binary64 n f
  infinite-64 = infinite-rule 53 11 (omega arith) (omega arith) neg n f

module _ (a : ℤ) (f : ℕ) (word : nat_abs a < 2 ^ 64) where
  pub raw-nearest-32 : NearestOf binary32 f a (lt_z a (pos 0)) (pattern_of binary32 (lt_z a (pos 0)) (nat_abs a) f)
  raw-nearest-32 = nearest-raw 24 8 roomy-32 a f word

  pub raw-nearest-64 : NearestOf binary64 f a (lt_z a (pos 0)) (pattern_of binary64 (lt_z a (pos 0)) (nat_abs a) f)
  raw-nearest-64 = nearest-raw 53 11 roomy-64 a f word
