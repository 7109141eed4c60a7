-- The order of two numbers depends on their difference alone; and that of a decimal fraction 0.d1 d2 .. dn and t / 10 m, digit by digit: t is c times m and a
-- rest; the next digit is compared with c, and where they are the same, what is left with ten times the rest. Assumes nothing.
use Rattle.std.specs.Prelude.{◌≡◌, refl, Bool, true, false, cond, List, [], ◌∷◌, ◌++◌, ltb, length, replicate}
use Rattle.std.proofs.Common.{sym, ap, ap₂, ◌∙◌, div-add-mod', mod-lt, mul-le-mul_right, mul-lt-mul_of_pos_right, pow-suc, mod-eq_of_lt, le-div_iff_mul-le, lt_of_lt_of_le, pow-add, pow_mono, shl_exact, ltb-true, ltb-false, lt-ltb, le-ltb}
use Prim.Native.Nat.{ℕ, zero, suc, ◌+◌, ◌-◌, ◌*◌, ◌/◌, ◌%◌, ◌^◌, ◌≤◌, ◌<◌}
use Rattle.std.proofs.Math.Nat.{mul-div_cancel_left, div-eq_of_lt}
use native.Mathlib.Omega.{arith}
use Rattle.grammar.specs.Meaning.{nat_from}
use Rattle.grammar.specs.Naturals.{nat_of, nat_of-cons}
use Rattle.std.specs.declared.cmp.Ordering.{Ordering}
use Rattle.std.specs.declared.cmp.Ordering.TheVariants.{Less, Equal, Greater}
use Rattle.std.specs.Ordering.{MatchOrdering, nat_cmp, ordering_then}
use Rattle.std.specs.Cmp.{ranks, nat_cmp_is}
use Rattle.tens.specs.Digits.{Small, nat-below}

-- it depends on the difference alone, and not on a common factor
pub cmp-shift : (k a b : ℕ) → nat_cmp (k + a) (k + b) ≡ nat_cmp a b
cmp-shift k a b = sym (nat_cmp_is (k + a) (k + b) (nat_cmp a b) (go (nat_cmp a b) (ranks a b)))
  where
    go : (o : Ordering) → MatchOrdering o (a < b) (a ≡ b) (b < a) → MatchOrdering o (k + a < k + b) (k + a ≡ k + b) (k + b < k + a)
    go Less h = omega arith
    go Equal h = omega arith
    go Greater h = omega arith

pub cmp-scale : (k a b : ℕ) → 0 < k → nat_cmp (a * k) (b * k) ≡ nat_cmp a b
cmp-scale k a b some = sym (nat_cmp_is (a * k) (b * k) (nat_cmp a b) (go (nat_cmp a b) (ranks a b)))
  where
    go : (o : Ordering) → MatchOrdering o (a < b) (a ≡ b) (b < a) → MatchOrdering o (a * k < b * k) (a * k ≡ b * k) (b * k < a * k)
    go Less h = mul-lt-mul_of_pos_right h some
    go Equal h = ap (λ (x : ℕ). x * k) h
    go Greater h = mul-lt-mul_of_pos_right h some

-- ---- digit by digit
unfoldable pub order_ten : List ℕ → ℕ → ℕ → Ordering
order_ten [] t m = nat_cmp 0 t
order_ten (d ∷ ds) t m = ordering_then (nat_cmp d (t / m)) (order_ten ds (t % m * 10) m)

-- one digit, with the products named: p is the power of ten, x what the later digits make
module _ (d x p c r m : ℕ) where
  one_less : x < p → 0 < m → d < c → (d * p + x) * m * 10 < (c * m + r) * (p * 10)
  one_less hx hm h =
      let far : suc d * (p * m) ≤ c * (p * m) = mul-le-mul_right (p * m) h in
      omega (arith, mul-lt-mul_of_pos_right hx hm)

  one_more : r < m → 0 < p → c < d → (c * m + r) * (p * 10) < (d * p + x) * m * 10
  one_more hr hp h =
      let far : suc c * (p * m) ≤ d * (p * m) = mul-le-mul_right (p * m) h in
      omega (arith, mul-lt-mul_of_pos_right hr hp)

  one_same : d ≡ c → nat_cmp ((d * p + x) * m * 10) ((c * m + r) * (p * 10)) ≡ nat_cmp (x * m * 10) (r * 10 * p)
  one_same h =
      let left : (d * p + x) * m * 10 ≡ c * m * p * 10 + x * m * 10 = ap (λ (y : ℕ). (y * p + x) * m * 10) h ∙ omega arith in
      let right : (c * m + r) * (p * 10) ≡ c * m * p * 10 + r * 10 * p = omega arith in
      ap₂ nat_cmp left right ∙ cmp-shift (c * m * p * 10) (x * m * 10) (r * 10 * p)

  one-digit : r < m → x < p → 0 < m → {o : Ordering} → o ≡ nat_cmp (x * m * 10) (r * 10 * p)
      → ordering_then (nat_cmp d c) o ≡ nat_cmp ((d * p + x) * m * 10) ((c * m + r) * (p * 10))
  one-digit hr hx hm {o} e = go (nat_cmp d c) (ranks d c)
    where
      go : (s : Ordering) → MatchOrdering s (d < c) (d ≡ c) (c < d) → ordering_then s o ≡ nat_cmp ((d * p + x) * m * 10) ((c * m + r) * (p * 10))
      go Less h = nat_cmp_is ((d * p + x) * m * 10) ((c * m + r) * (p * 10)) Less (one_less hx hm h)
      go Equal h = e ∙ sym (one_same h)
      go Greater h = nat_cmp_is ((d * p + x) * m * 10) ((c * m + r) * (p * 10)) Greater (one_more hr (omega arith) h)

-- The digits' order is that of the numbers: nat_of ds / 10^n and t / 10 m.
pub order-ten : (ds : List ℕ) (t m : ℕ) → 0 < m → Small ds → order_ten ds t m ≡ nat_cmp (nat_of 10 ds * m * 10) (t * 10 ^ length ds)
unfolding order_ten nat_from
order-ten [] t m h s =
    let left : 0 ≡ nat_of 10 [] * m * 10 = omega arith in
    let right : t ≡ t * 10 ^ length {A = ℕ} [] = omega arith in ap₂ nat_cmp left right
order-ten (d ∷ ds) t m h s =
    one-digit d (nat_of 10 ds) (10 ^ length ds) (t / m) (t % m) m (mod-lt t h) (nat-below ds s.1) h (order-ten ds (t % m * 10) m h s.1)
    ∙ ap₂ nat_cmp
    (ap (λ (x : ℕ). x * m * 10) (sym (nat_of-cons 10 d ds)))
    (ap₂ (λ (x y : ℕ). x * y) (div-add-mod' t m) (sym (pow-suc 10 (length ds))))

-- ---- zeros in front: each takes ten times the rest, and from ten times m on every digit is less
unfoldable pub sink_of : ℕ → ℕ → ℕ → ℕ
sink_of zero t m = t
sink_of (suc z) t m = cond (ltb t m) (sink_of z (t * 10) m) (m * 10)

past : (ds : List ℕ) (m : ℕ) → 0 < m → Small ds → order_ten ds (m * 10) m ≡ Less
unfolding order_ten
past [] m h s = sym (nat_cmp_is 0 (m * 10) Less (omega arith))
past (d ∷ ds) m h s =
    ap (λ (o : Ordering). ordering_then o (order_ten ds (m * 10 % m * 10) m)) (sym (nat_cmp_is d (m * 10 / m) Less (rw (mul-div_cancel_left 10 h) s.0)))

pub order-sink : (z : ℕ) (ds : List ℕ) (t m : ℕ) → 0 < m → Small ds → order_ten (replicate z 0 ++ ds) t m ≡ order_ten ds (sink_of z t m) m
unfolding order_ten sink_of
order-sink zero ds t m h s = refl
order-sink (suc z) ds t m h s = go (ltb t m) refl (order-sink z ds (t * 10) m h s)
  where
    go : (g : Bool) → ltb t m ≡ g → order_ten (replicate z 0 ++ ds) (t * 10) m ≡ order_ten ds (sink_of z (t * 10) m) m
        → ordering_then (nat_cmp 0 (t / m)) (order_ten (replicate z 0 ++ ds) (t % m * 10) m) ≡ order_ten ds (cond g (sink_of z (t * 10) m) (m * 10)) m
    go true e next = let l = ltb-true t m e in rw (div-eq_of_lt l, mod-eq_of_lt l) next
    go false e next =
        let l = ltb-false t m e in
        let some : 0 < t / m = (le-div_iff_mul-le h).1 (omega arith) in
        ap (λ (o : Ordering). ordering_then o (order_ten (replicate z 0 ++ ds) (t % m * 10) m)) (sym (nat_cmp_is 0 (t / m) Less some)) ∙ sym (past ds m h s)

-- a zero more, as the code finds it
pub low-alone : {h : ℕ} (l : ℕ) → h ≡ 0 → l ≡ h * 2 ^ 64 + l
low-alone l e = omega arith

pub low-less : {h l : ℕ} → h ≡ 0 → l < 2 ^ 64 → h * 2 ^ 64 + l < 2 ^ 64
low-less e b = omega arith

module _ (t m : ℕ) where
  pub sink-past : (z : ℕ) → 0 < z → m ≤ t → sink_of z t m ≡ m * 10
  unfolding sink_of
  sink-past zero h l = absurd (omega arith)
  sink-past (suc z) h l = rw (le-ltb t m l)

  pub sink-next : (z : ℕ) → 0 < z → t < m → sink_of z t m ≡ sink_of (z - 1) (t * 10) m
  unfolding sink_of
  sink-next zero h l = absurd (omega arith)
  sink-next (suc z) h l =
      let e : z ≡ suc z - 1 = omega arith in
      rw (lt-ltb t m l) (ap (λ (n : ℕ). sink_of n (t * 10) m) e)

-- the middle above q, from the words of the code
pub middle-fits : (q : ℕ) {a : ℕ} → q < 2 ^ 64 → a ≡ q * 10 → a + (0 * 2 ^ 64 + 5) < 2 ^ 128
middle-fits q h e = lt_of_lt_of_le {m = 2 ^ 68} (omega arith) (pow_mono {i = 68} {j = 128} (omega arith))

pub middle-words : (f q : ℕ) {a b r : ℕ} → f ≤ 64 → q < 2 ^ f → a ≡ q * 10 → b ≡ a + (0 * 2 ^ 64 + 5) → r ≡ b * 2 ^ (64 - f) % 2 ^ 128
    → r ≡ (q * 10 + 5) * 2 ^ (64 - f)
middle-words f q {b = b} h l e g k =
    let sum : b ≡ q * 10 + 5 = omega arith in
    let fits : q * 10 + 5 < 2 ^ (f + 4) = rw pow-add (omega arith) in
    k ∙ ap (λ (n : ℕ). n * 2 ^ (64 - f) % 2 ^ 128) sum ∙ shl_exact (f + 4) (64 - f) 128 fits (omega arith)
