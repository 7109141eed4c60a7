-- The operations on signs and magnitudes, as the code computes them, for the crate `further` too. Assumes nothing.
use Rattle.std.specs.Prelude.{◌≡◌, refl, Bool, true, false, not, ℕ, zero, suc, ◌+◌, ◌*◌, ◌-◌, ◌/◌, ◌%◌, ◌^◌, ◌≤◌, ◌<◌, ℤ, pos, negsuc, neg_ℤ, nat_abs, ◌+ℤ◌, ◌*ℤ◌}
use Rattle.std.proofs.Common.{sym, ap, ◌∙◌, arith, le_trans, div-le_self, mul-le-mul_left, mul-le-mul_right}
use Rattle.std.specs.Bool.{beq}
use Rattle.std.specs.Int.{div_ceil}
use Rattle.laws.specs.Bound.{abs-mul-le}
use Rattle.laws.specs.Floor.{floor}
use Rattle.format.specs.Meaning.{with_sign}
use Rattle.exact.specs.declared.Number.{Number}
use Rattle.exact.specs.Meaning.{number_of}
use Rattle.units.specs.Units.{floor_past, floor_whole}
use Rattle.exact.specs.Signs.{negated, abs-sign, one_word, sum_same, sum-apart, sum-turned}
use Rattle.results.specs.Meaning.{quot_euclid}

-- the size of a number, as a number that is not negative
pub size_of : (n : Bool) (v : ℕ) {z : ℤ} → with_sign n v ≡ z → with_sign false v ≡ pos (nat_abs z)
unfolding with_sign
size_of n v e = ap pos (sym (abs-sign n v) ∙ ap nat_abs e)

-- the quotient has the sign of the floor, turned where the divisor is negative
pub turned : (n m : Bool) (v b : ℕ) (a : ℤ) → 0 < b → with_sign n v ≡ floor a b → with_sign (not (beq n m)) v ≡ quot_euclid a (with_sign m b)
unfolding with_sign quot_euclid
turned n m v zero a h e = absurd (omega arith)
turned true true v (suc b) a h e = negated true v ∙ ap neg_ℤ e
turned true false v (suc b) a h e = e
turned false true v (suc b) a h e = negated false v ∙ ap neg_ℤ e
turned false false v (suc b) a h e = e

-- a floor is no larger than what is divided, so that a product's floor leaves a word's room below 2^128
floor-size : (z : ℤ) (m : ℕ) → nat_abs (floor z m) ≤ nat_abs z
floor-size (pos a) m = div-le_self a m
floor-size (negsuc a) m = omega (arith, div-le_self a m)

pub room : (n : Bool) (v m : ℕ) (x y : Number) → with_sign n v ≡ floor (number_of x *ℤ number_of y) m → x.size < 2 ^ 64 → y.size < 2 ^ 64
    → v + 2 ^ 64 ≤ 2 ^ 128
room n v m x y e h k =
    let z = number_of x *ℤ number_of y in
    let product : nat_abs z ≤ x.size * y.size =
    abs-mul-le (number_of x) (number_of y) (omega (arith, abs-sign x.neg x.size)) (omega (arith, abs-sign y.neg y.size)) in
    let size : v ≤ x.size * y.size = omega (arith, product, floor-size z m, abs-sign n v, ap nat_abs e) in
    let across : x.size * y.size ≤ x.size * 2 ^ 64 = mul-le-mul_left x.size (omega arith) in
    le_trans {m = suc x.size * 2 ^ 64} (omega (arith, size, across)) (mul-le-mul_right (2 ^ 64) h)

-- the sum of two words and one: equal signs, and unequal ones
module _ (n m : Bool) (a b : ℕ) where
  one : with_sign n a +ℤ with_sign m (0 * 2 ^ 64 + b) ≡ with_sign n a +ℤ with_sign m b
  one = ap (λ (z : ℤ). with_sign n a +ℤ z) (one_word m b)

  pub add_same : {v : ℕ} → beq n m ≡ true → v ≡ a + (0 * 2 ^ 64 + b) → with_sign n v ≡ with_sign n a +ℤ with_sign m b
  add_same h e = sum_same n m a (0 * 2 ^ 64 + b) h e ∙ one

  pub add_apart : {v : ℕ} → beq n m ≡ false → 0 * 2 ^ 64 + b ≤ a → v ≡ a - (0 * 2 ^ 64 + b) → with_sign n v ≡ with_sign n a +ℤ with_sign m b
  add_apart h l e = sum-apart n m a (0 * 2 ^ 64 + b) h l e ∙ one

  pub add_turned : {v : ℕ} → beq n m ≡ false → a < 0 * 2 ^ 64 + b → v ≡ 0 * 2 ^ 64 + b - a → with_sign m v ≡ with_sign n a +ℤ with_sign m b
  add_turned h l e = sum-turned n m a (0 * 2 ^ 64 + b) h (omega arith) e ∙ one

-- below zero, down is away from zero
pub ceil-turned : {n : Bool} (a m : ℕ) {v : ℕ} → 0 < m → n ≡ true → v ≡ div_ceil a m → with_sign n v ≡ floor (with_sign n a) m
unfolding with_sign
ceil-turned a m {v} h t e = rw t (go (a % m) refl)
  where
    go : (r : ℕ) → a % m ≡ r → neg_ℤ (pos v) ≡ floor (neg_ℤ (pos a)) m
    go zero z =
        let whole : v ≡ a / m = omega (arith, e, z) in
        ap (λ (k : ℕ). neg_ℤ (pos k)) whole ∙ floor_whole a m h z
    go (suc r) s =
        let past : v ≡ suc (a / m) = omega (arith, e, s) in
        ap (λ (k : ℕ). neg_ℤ (pos k)) past ∙ floor_past a m h (λ z. omega (arith, z, s))
