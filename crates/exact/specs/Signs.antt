-- The operations on signs and magnitudes, and that each is the operation on the numbers they stand for. Each law goes by the
-- signs. Assumes nothing.
use Rattle.std.specs.Prelude.{◌≡◌, refl, Bool, true, false, not, ℕ, zero, suc, ◌+◌, ◌*◌, ◌-◌, ◌/◌, ◌%◌, ◌^◌, ◌≤◌, ◌<◌, ltb, ℤ, pos, negsuc, neg_ℤ, nat_abs, ◌+ℤ◌, ◌*ℤ◌}
use Rattle.std.proofs.Common.{sym, ap, ap₂, ◌∙◌, true≢false, arith, add-one, lt_of_le_of_lt, div-le_self, shl_exact, le-ltb, ltb-true, ltb-false}
use Rattle.std.specs.Bool.{beq}
use Rattle.std.proofs.lemmas.Bool.{false≢true}
use Rattle.std.proofs.Math.Nat.{zero-div, zero-mod}
use Rattle.std.proofs.Math.Arith.{digits_lt}
use Rattle.std.proofs.Math.IntN.{+ℤ_comm, neg_ℤ-neg_ℤ}
use Rattle.std.specs.Int.Signed.{lt_z, quot_z, rem_z}
use Rattle.laws.specs.Diff.{add-out, eq-in, up-mul, dn-mul, up_neg, dn-neg}
use Rattle.laws.specs.Floor.{floor}
use Rattle.laws.specs.Signed.{signed as kit}
use Rattle.format.specs.Meaning.{with_sign}
use Rattle.format.specs.Place.{sign-out}
use Rattle.exact.specs.declared.Number.{Number}
use Rattle.exact.specs.Meaning.{number_of}

-- an operation on what the parts stand for
pub via₂ : (op : ℤ → ℤ → ℤ) {x y z a b : ℤ} → x ≡ a → y ≡ b → z ≡ op x y → z ≡ op a b
via₂ op p q e = e ∙ ap₂ op p q

pub via : (op : ℤ → ℤ) {x z a : ℤ} → x ≡ a → z ≡ op x → z ≡ op a
via op p e = e ∙ ap op p

-- a number apart
pub apart : (x : ℤ) {y : ℤ} {m : ℕ} → y ≡ x → m ≡ nat_abs y → with_sign (lt_z y (pos 0)) m ≡ x
unfolding with_sign
apart (pos n) e q = rw (q, e, le-ltb n 0 (omega arith))
apart (negsuc n) e q = rw (q, e)

pub negated : (n : Bool) (m : ℕ) → with_sign (not n) m ≡ neg_ℤ (with_sign n m)
unfolding with_sign
negated true m = sym (neg_ℤ-neg_ℤ (pos m))
negated false m = refl

-- the sum: equal signs, and unequal ones
pub sum_same : (n m : Bool) (a b : ℕ) {v : ℕ} → beq n m ≡ true → v ≡ a + b → with_sign n v ≡ with_sign n a +ℤ with_sign m b
sum_same true true a b {v} h e = omega (kit, e, sign-out true v, sign-out true a, sign-out true b, add-out (with_sign true a) (with_sign true b))
sum_same true false a b h e = absurd (false≢true h)
sum_same false true a b h e = absurd (false≢true h)
sum_same false false a b {v} h e = omega (kit, e, sign-out false v, sign-out false a, sign-out false b, add-out (with_sign false a) (with_sign false b))

pub sum-apart : (n m : Bool) (a b : ℕ) {v : ℕ} → beq n m ≡ false → b ≤ a → v ≡ a - b → with_sign n v ≡ with_sign n a +ℤ with_sign m b
sum-apart true true a b h l e = absurd (true≢false h)
sum-apart true false a b {v} h l e = omega (kit, e, sign-out true v, sign-out true a, sign-out false b, add-out (with_sign true a) (with_sign false b))
sum-apart false true a b {v} h l e = omega (kit, e, sign-out false v, sign-out false a, sign-out true b, add-out (with_sign false a) (with_sign true b))
sum-apart false false a b h l e = absurd (true≢false h)

pub sum-turned : (n m : Bool) (a b : ℕ) {v : ℕ} → beq n m ≡ false → a ≤ b → v ≡ b - a → with_sign m v ≡ with_sign n a +ℤ with_sign m b
sum-turned n m a b h l e = sum-apart m n b a (turned n m h) l e ∙ +ℤ_comm (with_sign m b) (with_sign n a)
  where
    turned : (n m : Bool) → beq n m ≡ false → beq m n ≡ false
    turned true true h = h
    turned true false h = refl
    turned false true h = refl
    turned false false h = h

pub words-lt : {h l : ℕ} → h < 2 ^ 64 → l < 2 ^ 64 → h * 2 ^ 64 + l < 2 ^ 128
words-lt p q = digits_lt {m = 2 ^ 64} p q

-- the product, and a product with a number that is not negative
pub product-sign : (n m : Bool) (a b : ℕ) → with_sign (not (beq n m)) (a * b) ≡ with_sign n a *ℤ with_sign m b
unfolding with_sign
product-sign true true a b = eq-in (pos (a * b)) (neg_ℤ (pos a) *ℤ neg_ℤ (pos b)) (simp (up-mul, dn-mul, up_neg, dn-neg) (omega arith))
product-sign true false a b = eq-in (neg_ℤ (pos (a * b))) (neg_ℤ (pos a) *ℤ pos b) (simp (up-mul, dn-mul, up_neg, dn-neg) (omega arith))
product-sign false true a b = eq-in (neg_ℤ (pos (a * b))) (pos a *ℤ neg_ℤ (pos b)) (simp (up-mul, dn-mul, up_neg, dn-neg) (omega arith))
product-sign false false a b = refl

pub scaled_sign : (n : Bool) (a m : ℕ) → with_sign n (a * m) ≡ with_sign n a *ℤ pos m
unfolding with_sign
scaled_sign true a m = product-sign true false a m
scaled_sign false a m = refl

-- the floor: of a number that is not negative, of 0, and below zero one more than the quotient of the magnitude less one
pub floor-above : {n : Bool} (a m : ℕ) {v : ℕ} → n ≡ false → v ≡ a / m → with_sign false v ≡ floor (with_sign n a) m
unfolding with_sign
floor-above a m t e = rw t (ap pos e)

pub floor-turned : {n : Bool} (a m : ℕ) {z : ℤ} → n ≡ true → z ≡ floor (with_sign true a) m → z ≡ floor (with_sign n a) m
floor-turned a m t e = e ∙ ap (λ (n : Bool). floor (with_sign n a) m) (sym t)

pub floor-zero : (a m : ℕ) {v : ℕ} → a ≡ 0 → v ≡ 0 → with_sign false v ≡ floor (with_sign true a) m
unfolding with_sign
floor-zero a m e q = rw (e, q) (ap pos (sym (zero-div m)))

pub floor-below : (a m : ℕ) {s t v : ℕ} → 1 ≤ a → s ≡ a - 1 → t ≡ s / m → v ≡ t + 1 → with_sign true v ≡ floor (with_sign true a) m
unfolding with_sign
floor-below zero m h p q r = absurd (omega arith)
floor-below (suc n) m {s} h p q r =
    let e : s ≡ n = omega arith in
    ap (λ (k : ℕ). neg_ℤ (pos k)) (r ∙ add-one _) ∙ ap negsuc (q ∙ ap (λ (k : ℕ). k / m) e)

-- by the test for 0
pub none_below : (a : ℕ) {t : Bool} → t ≡ ltb a 1 → t ≡ true → a ≡ 0
none_below a e t = omega (arith, ltb-true a 1 (sym e ∙ t))

pub some_below : (a : ℕ) {t : Bool} → t ≡ ltb a 1 → t ≡ false → 1 ≤ a
some_below a e t = ltb-false a 1 (sym e ∙ t)

pub below-fits : {a s t : ℕ} (m : ℕ) → 1 ≤ a → a < 2 ^ 128 → s ≡ a - 1 → t ≡ s / m → t + 1 < 2 ^ 128
below-fits {a} {s} {t} m h l p q = lt_of_le_of_lt {m = a} (omega (arith, p, q, div-le_self s m)) l

-- a word times 2^k is below 2^128
pub scaled-words : (a k : ℕ) {v : ℕ} → a < 2 ^ 64 → k ≤ 64 → v ≡ (0 * 2 ^ 64 + a) * 2 ^ k % 2 ^ 128 → v ≡ a * 2 ^ k
scaled-words a k h l e =
    let z : 0 * 2 ^ 64 + a ≡ a = omega arith in
    e ∙ ap (λ (n : ℕ). n * 2 ^ k % 2 ^ 128) z ∙ shl_exact {a = a} 64 k 128 h (omega arith)

-- the quotient toward zero, and the remainder with the sign of what is divided
pub quotient-sign : (n m : Bool) (a b : ℕ) → 0 < b → with_sign (not (beq n m)) (a / b) ≡ quot_z (with_sign n a) (with_sign m b)
unfolding with_sign
quotient-sign n m a zero h = absurd (omega arith)
quotient-sign true true zero (suc b) h = ap pos (zero-div (suc b)) ∙ ap (λ (k : ℕ). neg_ℤ (pos k)) (sym (zero-div (suc b)))
quotient-sign true true (suc a) (suc b) h = refl
quotient-sign true false zero (suc b) h = ap (λ (k : ℕ). neg_ℤ (pos k)) (zero-div (suc b)) ∙ ap pos (sym (zero-div (suc b)))
quotient-sign true false (suc a) (suc b) h = refl
quotient-sign false true a (suc b) h = refl
quotient-sign false false a (suc b) h = refl

pub abs-sign : (n : Bool) (a : ℕ) → nat_abs (with_sign n a) ≡ a
unfolding with_sign
abs-sign true zero = refl
abs-sign true (suc a) = refl
abs-sign false a = refl

pub remainder-sign : (n m : Bool) (a b : ℕ) {v : ℕ} → v ≡ a % b → with_sign n v ≡ rem_z (with_sign n a) (with_sign m b)
unfolding with_sign
remainder-sign n m a b e = ap (with_sign n) (e ∙ ap (λ (k : ℕ). a % k) (sym (abs-sign m b))) ∙ of n a (with_sign m b)
  where
    of : (n : Bool) (a : ℕ) (d : ℤ) → with_sign n (a % nat_abs d) ≡ rem_z (with_sign n a) d
    of true zero d = rw (zero-mod (nat_abs d))
    of true (suc a) d = refl
    of false a d = refl

-- a result of one word
pub one_word : (n : Bool) (a : ℕ) → with_sign n (0 * 2 ^ 64 + a) ≡ with_sign n a
one_word n a = ap (with_sign n) (omega arith)

pub some_size : (n : Bool) (a : ℕ) → 0 < nat_abs (with_sign n a) → 0 < a
some_size n a h = omega (arith, abs-sign n a)

-- the same of what the code has of a number
pub size-some : (x : Number) {z : ℤ} → number_of x ≡ z → 0 < nat_abs z → 0 < x.size
size-some x e h = some_size x.neg x.size (rw e h)
