-- The roundings on signs and magnitudes, as the code computes them: one law for each way out. Assumes nothing.
use Rattle.std.specs.Prelude.{◌≡◌, refl, Bool, true, false, ℤ, negsuc, ◌-ℤ◌, ◌*ℤ◌}
use Rattle.std.specs.declared.cmp.Ordering.{Ordering}
use Rattle.std.specs.declared.cmp.Ordering.TheVariants.{Less, Equal, Greater}
use Rattle.std.specs.Ordering.{MatchOrdering}
use Rattle.std.proofs.Math.Path.{sym, ap}
use Rattle.std.proofs.Common.{◌∙◌, lt_of_mul-lt-mul_right, pow_pos, eq-eqb, ne_eqb, lt-ltb, le-ltb}
use Prim.Native.Nat.{ℕ, zero, suc, ◌+◌, ◌*◌, ◌-◌, ◌/◌, ◌%◌, ◌^◌, ◌≤◌, ◌<◌}
use native.Mathlib.Omega.{arith}
use native.Mathlib.Nat.{mul-div_cancel, mul-mod_left}
use lib.Arith.{mod-mul}
use Rattle.std.proofs.Math.Nat.{div-add-mod', eq_of_mul-eq-mul_right, mod-lt, zero-div, zero-mod}
use Rattle.std.proofs.Math.IntN.{pos, neg_ℤ}
use Rattle.laws.specs.Diff.{sub_out, add-out, up_neg, dn-neg}
use Rattle.laws.specs.Floor.{floor, floor-shr_z}
use Rattle.laws.specs.Nearest.{nearest_by, nearest_even}
use Rattle.laws.specs.Order.{mul-out}
use Rattle.laws.specs.Powers.{power-sub}
use Rattle.laws.specs.Signed.{signed as kit}
use Rattle.format.specs.Fault.{width-bounds}
use Rattle.format.specs.Meaning.{is_width, with_sign}
use Rattle.exact.specs.Signs.{floor-zero}
use Rattle.units.specs.Meaning.{nearest_away, by_size, floor_to, int_part, frac_part}

-- the fraction bits of a format are at most a word's
pub frac_word : {w f : ℕ} → is_width w ≡ true → f ≤ w → f ≤ 64
frac_word {w} h l = omega (arith, (width-bounds w h).1)

-- ---- words: the rest where it stands in the high bits
pub spread : (a f : ℕ) → f ≤ 64 → a * 2 ^ (64 - f) % 2 ^ 64 ≡ a % 2 ^ f * 2 ^ (64 - f)
spread a f l =
    let k = 2 ^ (64 - f) in
    let whole : 2 ^ 64 ≡ 2 ^ f * k = power-sub f 64 l ∙ omega arith in
    let parts = mod-mul (a * k) {m = 2 ^ f} {c = k} (pow_pos f) (pow_pos (64 - f)) in
    ap (λ (n : ℕ). a * k % n) whole ∙ parts ∙ omega (arith, mul-mod_left a k, ap (λ (n : ℕ). n % 2 ^ f * k) (mul-div_cancel a (pow_pos (64 - f))))

-- beside half of m, the same as beside half of 2^64 when both are taken k times
pub beside : (m k r : ℕ) (o : Ordering) → m * k ≡ 2 ^ 64 → MatchOrdering o (r * k < 2 ^ 63) (r * k ≡ 2 ^ 63) (2 ^ 63 < r * k)
    → MatchOrdering o (r * 2 < m) (r * 2 ≡ m) (m < r * 2)
beside m k r Less e h = lt_of_mul-lt-mul_right k (omega (arith, e, h))
beside m zero r Equal e h = absurd (omega (arith, e))
beside m (suc k) r Equal e h = eq_of_mul-eq-mul_right (suc k) (omega arith) (r * 2) m (omega (arith, e, h))
beside m k r Greater e h = lt_of_mul-lt-mul_right k (omega (arith, e, h))

-- ---- below zero, down
pub above_zero : (a m : ℕ) → a ≡ 0 → with_sign true 0 ≡ floor (with_sign true a) m
unfolding with_sign
above_zero a m e = floor-zero a m e refl

-- ---- what is left of a number above a multiple
module _ (a m : ℕ) (h : 0 < m) where
  -- below zero the floor is one further down where something is left
  pub floor_past : (a % m ≡ 0 → ⊥) → negsuc (a / m) ≡ floor (neg_ℤ (pos a)) m
  floor_past e =
      let q = negsuc (a / m) in
      floor-shr_z h (record {
        low = omega (kit, mul-out q m, up_neg (pos a), dn-neg (pos a), div-add-mod' a m, mod-lt a h);
        high = omega (kit, mul-out q m, add-out (q *ℤ pos m) (pos m), up_neg (pos a), dn-neg (pos a), div-add-mod' a m, e);
      })

  pub floor_whole : a % m ≡ 0 → neg_ℤ (pos (a / m)) ≡ floor (neg_ℤ (pos a)) m
  floor_whole e =
      let q = neg_ℤ (pos (a / m)) in
      let none = ap (λ (n : ℕ). n * m) (up_neg (pos (a / m))) in
      let some = ap (λ (n : ℕ). n * m) (dn-neg (pos (a / m))) in
      floor-shr_z h (record {
        low = omega (kit, mul-out q m, none, some, up_neg (pos a), dn-neg (pos a), div-add-mod' a m, e);
        high = omega (kit, mul-out q m, none, some, add-out (q *ℤ pos m) (pos m), up_neg (pos a), dn-neg (pos a), div-add-mod' a m, e);
      })

  pub modulo-past : {n : Bool} → n ≡ true → (a % m ≡ 0 → ⊥) → pos (m - a % m) ≡ with_sign n a -ℤ floor_to (with_sign n a) m
  unfolding with_sign
  modulo-past t e =
      let q = negsuc (a / m) in
      rw (t, sym (floor_past e))
      (omega (kit, sub_out (neg_ℤ (pos a)) (q *ℤ pos m), mul-out q m, up_neg (pos a), dn-neg (pos a), div-add-mod' a m, mod-lt a h))

  pub modulo-rest : (n : Bool) → (n ≡ true → a % m ≡ 0) → pos (a % m) ≡ with_sign n a -ℤ floor_to (with_sign n a) m
  unfolding with_sign
  modulo-rest false e = omega (kit, sub_out (pos a) (pos (a / m) *ℤ pos m), mul-out (pos (a / m)) m, div-add-mod' a m)
  modulo-rest true e =
      let q = neg_ℤ (pos (a / m)) in
      let none = ap (λ (n : ℕ). n * m) (up_neg (pos (a / m))) in
      let some = ap (λ (n : ℕ). n * m) (dn-neg (pos (a / m))) in
      rw (sym (floor_whole (e refl)))
      (omega (kit, sub_out (neg_ℤ (pos a)) (q *ℤ pos m), mul-out q m, none, some, up_neg (pos a), dn-neg (pos a), div-add-mod' a m, e refl))

-- ---- to the nearest, by where the rest stands beside half of m
module _ (a m : ℕ) {q : ℕ} (e : q ≡ a / m) where
  pub away-below : a % m * 2 < m → q ≡ nearest_away a m
  unfolding nearest_away
  away-below h = rw (lt-ltb (a % m * 2) m h) e

  pub away-above : m ≤ a % m * 2 → q + 1 ≡ nearest_away a m
  unfolding nearest_away
  away-above h = rw (le-ltb (a % m * 2) m h) (ap (λ (k : ℕ). k + 1) e)

  pub even-below : a % m * 2 < m → q ≡ nearest_even a m
  unfolding nearest_even nearest_by
  even-below h = rw (lt-ltb (a % m * 2) m h) e

  pub even-above : m < a % m * 2 → q + 1 ≡ nearest_even a m
  unfolding nearest_even nearest_by
  even-above h = rw (le-ltb (a % m * 2) m (omega arith), lt-ltb m (a % m * 2) h) (ap (λ (k : ℕ). k + 1) e)

  pub even-tie : a % m * 2 ≡ m → q + q % 2 ≡ nearest_even a m
  unfolding nearest_even nearest_by
  even-tie h = rw (le-ltb (a % m * 2) m (omega arith), le-ltb m (a % m * 2) (omega arith)) (ap (λ (k : ℕ). k + k % 2) e)

-- the sign goes around a rounding that leaves 0 as it is
pub by-size : (f : ℕ → ℕ) (n : Bool) (a : ℕ) {v : ℕ} → f 0 ≡ 0 → v ≡ f a → with_sign n v ≡ by_size f (with_sign n a)
unfolding with_sign by_size
by-size f true zero z e = ap (λ (k : ℕ). neg_ℤ (pos k)) (e ∙ z) ∙ ap pos (sym z)
by-size f true (suc a) z e = ap (λ (k : ℕ). neg_ℤ (pos k)) e
by-size f false a z e = ap pos e

pub away-none : (m : ℕ) → 0 < m → nearest_away 0 m ≡ 0
away-none m h = sym (away-below 0 m (sym (zero-div m)) (omega (arith, zero-mod m)))

pub even-none : (m : ℕ) → 0 < m → nearest_even 0 m ≡ 0
even-none m h = sym (even-below 0 m (sym (zero-div m)) (omega (arith, zero-mod m)))

-- units in steps, and the two parts
pub in-steps : (m : ℕ) {u v x : ℤ} → u ≡ v → x ≡ u *ℤ pos m → x ≡ v *ℤ pos m
in-steps m e p = p ∙ ap (λ (z : ℤ). z *ℤ pos m) e

module _ (w f : ℕ) (z : ℤ) {x : ℤ} where
  pub int-none : f ≡ w → x ≡ pos 0 → x ≡ int_part w f z
  unfolding int_part
  int-none e p = rw (eq-eqb f w e) p

  pub int-some : (f ≡ w → ⊥) → x ≡ floor_to z (2 ^ f) → x ≡ int_part w f z
  unfolding int_part
  int-some h p = rw (ne_eqb f w h) p

  pub frac-none : f ≡ w → x ≡ z → x ≡ frac_part w f z
  unfolding int_part
  frac-none e p = rw (eq-eqb f w e) (p ∙ omega (kit, sub_out z (pos 0)))

  pub frac-some : {m : ℕ} → (f ≡ w → ⊥) → m ≡ 2 ^ f → x ≡ z -ℤ floor_to z m → x ≡ frac_part w f z
  unfolding int_part
  frac-some h e p = rw (ne_eqb f w h) (p ∙ ap (λ (k : ℕ). z -ℤ floor_to z k) e)
