-- For `Among`, in whole numbers: n / 2^f rounded as if there were no largest number is nearest among all numbers of at
-- most p significant bits, and even at a tie; and when that is past the largest number. Idea: such a number is a whole
-- number of units of the significand's last place, or lies below 2^(p-1) of them, as n / 2^f does not. Assumes nothing.
use Rattle.std.specs.Prelude.{◌≡◌, ◌↔◌, ℕ, suc, ◌+◌, ◌-◌, ◌*◌, ◌/◌, ◌%◌, ◌^◌, ◌≤◌, ◌<◌}
use Rattle.std.proofs.Math.Path.{sym, ap}
use Rattle.std.proofs.Common.{◌∙◌, mul-pos, mul-le-mul_left, mul-le-mul_right, mul-lt-mul_of_pos_right, le_of_mul-le-mul_right, le_of_lt, ne_of_gt, pow_mono}
use Rattle.std.proofs.Math.Decide.{dec_le}
use Rattle.std.proofs.Math.Nat.{eq_of_mul-eq-mul_right}
use native.Mathlib.Omega.{arith}
use Rattle.std.proofs.Math.Pow.{pow_pos, pow-add}
use Rattle.laws.specs.Nearest.{Nearest}
use Rattle.laws.specs.Powers.{power-sub, double}
use Rattle.float.specs.Meaning.{Binary, bias, least}
use Rattle.float.specs.Parts.{binary}
use Rattle.to_float.specs.Meaning.{unit, significand, nearest_steps}
use Rattle.to_float.specs.Theorems.{Short, past, significand-nearest, significand-least, significand-most}
use Rattle.to_float.specs.Theorems.{units-least, units-below}

power-next : (i j : ℕ) → i < j → 2 ^ i * 2 ≤ 2 ^ j
power-next i j h = omega (arith, pow_mono {i = i + 1} {j = j} (omega arith), pow-add 2 i 1)

-- ---- y is a whole number j of units d, even where the leading digits l of y are; or y is below h units, as x is not
data Counted (x d h l y : ℕ) : Type 0 where
  whole : (j : ℕ) → y ≡ j * d → (l % 2 ≡ 0 → j % 2 ≡ 0) → Counted x d h l y
  below : y < h * d → h * d ≤ x → Counted x d h l y

times-even : (l q : ℕ) → l % 2 ≡ 0 → l * q % 2 ≡ 0
times-even l q e =
    let half : l ≡ l / 2 * 2 = omega arith in
    omega (arith, ap (λ (v : ℕ). v * q) half)

-- as is a number k of at most p significant bits, where the last place of the significand is u
counted : (p u f k x : ℕ) (short : Short p k) → 1 ≤ p → (0 < u → 2 ^ (p - 1) * (2 ^ f * 2 ^ u) ≤ x)
    → Counted x (2 ^ f * 2 ^ u) (2 ^ (p - 1)) short.leading (k * 2 ^ f)
counted p u f k x short some lead = go (dec_le u e)
  where
    l : ℕ
    l = short.leading

    e : ℕ
    e = short.zeros

    made : k * 2 ^ f ≡ l * 2 ^ e * 2 ^ f
    made = ap (λ (v : ℕ). v * 2 ^ f) short.made

    go : Dec (u ≤ e) → Counted x (2 ^ f * 2 ^ u) (2 ^ (p - 1)) l (k * 2 ^ f)
    go (yes m) =
        let same = ap (λ (v : ℕ). l * v * 2 ^ f) (power-sub u e m) in
        whole (l * 2 ^ (e - u)) (omega (arith, made, same)) (times-even l (2 ^ (e - u)))
    go (no m) =
        let few = mul-lt-mul_of_pos_right short.few (mul-pos (pow_pos e) (pow_pos f)) in
        let far = mul-le-mul_right (2 ^ (p - 1) * 2 ^ f) (power-next e u (omega arith)) in
        let half = ap (λ (v : ℕ). v * (2 ^ e * 2 ^ f)) (double p some) in
        below (omega (arith, made, few, far, half)) (lead (omega arith))

-- ---- nearest among them
abbrev pub gap : ℕ → ℕ → ℕ
gap a b = (a - b) + (b - a)

module _ (x d c : ℕ) (near : Nearest x d c) (some : 0 < d) where
  unit-nearest : (j : ℕ) → gap (c * d) x ≤ gap (j * d) x
  unit-nearest j = go (dec_le (suc j) c) (dec_le (suc c) j)
    where
      go : Dec (suc j ≤ c) → Dec (suc c ≤ j) → gap (c * d) x ≤ gap (j * d) x
      go (yes l) r = omega (arith, mul-le-mul_right d l, near.above)
      go (no l) (yes r) = omega (arith, mul-le-mul_right d r, near.below)
      go (no l) (no r) = let e : j ≡ c = omega arith in rw e (omega arith)

  -- two of them are as near: neighbours, and the nearest is the even one
  unit-tie : (j : ℕ) → (j ≡ c → ⊥) → gap (j * d) x ≡ gap (c * d) x → (c % 2 ≡ 0) × (j % 2 ≡ 1)
  unit-tie j other same = go (dec_le (suc j) c)
    where
      go : Dec (suc j ≤ c) → (c % 2 ≡ 0) × (j % 2 ≡ 1)
      go (yes l) =
          let more = mul-le-mul_right d l in
          let next : c ≡ suc j = eq_of_mul-eq-mul_right d some c (suc j) (omega (arith, near.above)) in
          let even = near.tie-above (omega (arith, near.above)) in
          (even, omega arith)
      go (no l) =
          let r : suc c ≤ j = omega (arith, other) in
          let more = mul-le-mul_right d r in
          let next : suc c ≡ j = eq_of_mul-eq-mul_right d some (suc c) j (omega (arith, near.below)) in
          let even = near.tie-below (omega (arith, near.below)) in
          (even, omega arith)

  farther : (h y : ℕ) → y < h * d → h * d ≤ x → gap (c * d) x < gap y x
  farther h y l m = omega (arith, unit-nearest h)

  all-nearest : {h l y : ℕ} → Counted x d h l y → gap (c * d) x ≤ gap y x
  all-nearest (whole j e i) = rw e (unit-nearest j)
  all-nearest {h} {l} {y} (below m n) = le_of_lt (farther h y m n)

  all-tie : {h l y : ℕ} → Counted x d h l y → (y ≡ c * d → ⊥) → gap y x ≡ gap (c * d) x → (c % 2 ≡ 0) × (l % 2 ≡ 0 → ⊥)
  all-tie (whole j e i) other same =
      let tie = unit-tie j (λ z. other (e ∙ ap (λ (v : ℕ). v * d) z)) (ap (λ (v : ℕ). gap v x) (sym e) ∙ same) in
      (tie.0, λ z. omega (arith, tie.1, i z))
  all-tie {h} {l} {y} (below m n) other same = absurd (ne_of_gt (farther h y m n) same)

-- ---- n / 2^f rounded, as if there were no largest number
module _ (b : Binary) (n f : ℕ) (some : 1 ≤ b.precision) where
  abbrev m : ℕ
  m = nearest_steps b n f

  abbrev c : ℕ
  c = significand b n f

  abbrev x : ℕ
  x = n * 2 ^ least b

  abbrev d : ℕ
  d = 2 ^ f * 2 ^ unit b n f

  units : m * 2 ^ f ≡ c * d
  unfolding nearest_steps
  units = omega arith

  unit-some : 0 < d
  unit-some = mul-pos (pow_pos f) (pow_pos (unit b n f))

  placed : (k : ℕ) (short : Short b.precision k) → Counted x d (2 ^ (b.precision - 1)) short.leading (k * 2 ^ f)
  placed k short = counted b.precision (unit b n f) f k x short some (units-least b n f some)

  -- no number of at most p significant bits is nearer
  pub same-nearest : (k : ℕ) → Short b.precision k → gap (m * 2 ^ f) x ≤ gap (k * 2 ^ f) x
  same-nearest k short = rw units (all-nearest x d c (significand-nearest b n f) unit-some (placed k short))

  -- where another is as near, the significand is even and the other's is odd
  pub same-tie : (k : ℕ) (short : Short b.precision k) → (k ≡ m → ⊥) → gap (k * 2 ^ f) x ≡ gap (m * 2 ^ f) x
      → (c % 2 ≡ 0) × (short.leading % 2 ≡ 0 → ⊥)
  same-tie k short other e =
      all-tie x d c (significand-nearest b n f) unit-some (placed k short)
      (λ z. other (eq_of_mul-eq-mul_right (2 ^ f) (pow_pos f) k m (z ∙ sym units))) (e ∙ ap (λ (v : ℕ). gap v x) units)

-- ---- past the largest number: its last digit is in the place j, that of the significand c in the place u; i is p - 1
module _ (x f u c i j : ℕ) (near : Nearest x (2 ^ f * 2 ^ u) c) where
  abbrev g : ℕ
  g = 2 ^ f

  abbrev v : ℕ
  v = 2 ^ u

  abbrev h : ℕ
  h = 2 ^ i

  abbrev z : ℕ
  z = 2 ^ j

  same_place : (h * 2 * v ≤ c * v) ↔ (h * 2 * (g * v) * 2 ≤ x * 2 + g * v)
  same_place = (λ l. omega (arith, mul-le-mul_right g l, near.above), λ l. go l (dec_le (h * 2) c))
    where
      go : h * 2 * (g * v) * 2 ≤ x * 2 + g * v → Dec (h * 2 ≤ c) → h * 2 * v ≤ c * v
      go l (yes m) = mul-le-mul_right v m
      go l (no m) =
          let k : suc c ≤ h * 2 = omega arith in
          let even = near.tie-below (omega (arith, mul-le-mul_right (g * v) k, near.below)) in
          let some = mul-pos (pow_pos f) (pow_pos u) in
          let last : h * 2 ≤ suc c = le_of_mul-le-mul_right {k = g * v} (omega (arith, near.below)) some in
          absurd (omega arith)

  past-place : x < h * 2 * (g * v) → c ≤ h * 2 → (0 < u → h * (g * v) ≤ x) → (0 < u → h ≤ c)
      → (h * 2 * z ≤ c * v) ↔ (h * 2 * (g * z) * 2 ≤ x * 2 + g * z)
  past-place high most lead low = go (dec_le (suc u) j) (dec_le (suc j) u)
    where
      go : Dec (suc u ≤ j) → Dec (suc j ≤ u) → (h * 2 * z ≤ c * v) ↔ (h * 2 * (g * z) * 2 ≤ x * 2 + g * z)
      go (yes l) r =
          let less = mul-le-mul_left h (power-next u j l) in
          let far = mul-le-mul_left (h * g) (power-next u j l) in (
            λ q. absurd (omega (arith, mul-le-mul_right v most, mul-pos (pow_pos i) (pow_pos u))),
            λ q. absurd (omega (arith, mul-le-mul_right (g * z) (pow_pos i))),
          )
      go (no l) (yes r) =
          let more = mul-le-mul_left h (power-next j u r) in
          let far = mul-le-mul_left (h * g) (power-next j u r) in
          let cut : 0 < u = omega arith in
          (λ q. omega (arith, lead cut), λ q. omega (arith, mul-le-mul_right v (low cut)))
      go (no l) (no r) = let e : j ≡ u = omega arith in rw e same_place

-- and in the words of the rule: a is 2^emax, r is 2^least, q is 2^(p+1) - 1
past_bound : (a q g n h r z : ℕ) → a * r ≡ h * z → q + 1 ≡ h * 4 → 0 < h → 0 < r
    → (h * 2 * (g * z) * 2 ≤ n * r * 2 + g * z) ↔ (a * q * g ≤ n * (h * 2))
past_bound a q g n h r z e j hs rs =
    let same = ap (λ (v : ℕ). v * (q * g)) e in
    let more = ap (λ (v : ℕ). v * (g * z)) j in (
      λ l. le_of_mul-le-mul_right {k = r} (omega (arith, mul-le-mul_right h l, ap (λ (v : ℕ). v * h) more)) rs,
      λ l.
          let m : q * (g * z) ≤ n * r * 2 = le_of_mul-le-mul_right {k = h} (omega (arith, mul-le-mul_right r l)) hs in
          omega arith,
    )

module _ (p w : ℕ) (some : 2 ≤ p) (field : 2 ≤ w) (n f : ℕ) where
  abbrev b : Binary
  b = binary p w

  abbrev half : ℕ
  half = 2 ^ (p - 1)

  abbrev last : ℕ
  last = 2 ^ w - 3

  exponents : (least b + bias b + 1 ≡ p + last) × (bias b + least b ≡ (p - 1) + last)
  exponents = omega (arith, double w (omega arith), pow_mono {i = 2} {j = w} field)

  twice : 2 ^ p ≡ half * 2
  twice = double p (omega arith)

  pub steps-past : (past b ≤ nearest_steps b n f) ↔ (2 ^ bias b * (2 ^ (p + 1) - 1) * 2 ^ f ≤ n * 2 ^ p)
  unfolding nearest_steps
  steps-past =
      let top : past b ≡ half * 2 * 2 ^ last =
      ap (λ (i : ℕ). 2 ^ i) exponents.0 ∙ pow-add 2 p last ∙ ap (λ (v : ℕ). v * 2 ^ last) twice in
      let ends : 2 ^ bias b * 2 ^ least b ≡ half * 2 ^ last =
      sym (pow-add 2 (bias b) (least b)) ∙ ap (λ (i : ℕ). 2 ^ i) exponents.1 ∙ pow-add 2 (p - 1) last in
      let ones : (2 ^ (p + 1) - 1) + 1 ≡ half * 4 = omega (arith, twice, pow-add 2 p 1, pow_pos p) in
      let one : 1 ≤ p = omega arith in
      let place =
      past-place (n * 2 ^ least b) f (unit b n f) (significand b n f) (p - 1) last (significand-nearest b n f)
      (rw twice at (units-below b n f)) (rw twice at (significand-most b n f))
      (units-least b n f one) (significand-least b n f one) in
      let bound =
      past_bound (2 ^ bias b) (2 ^ (p + 1) - 1) (2 ^ f) n half (2 ^ least b) (2 ^ last) ends ones
      (pow_pos (p - 1)) (pow_pos (least b)) in
      (λ l. rw twice (bound.0 (place.0 (rw top at l))), λ l. rw top (place.1 (bound.1 (rw twice at l))))
