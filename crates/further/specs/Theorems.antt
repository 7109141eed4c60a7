-- What is proved of the meaning, without code: Euclidean quotient and remainder fit together, the mean lies between, the distance is symmetric, and a
-- product and a sum are rounded once. Assumes nothing.
use Rattle.std.specs.Prelude.{◌≡◌, refl, ℕ, zero, suc, ◌*◌, ◌^◌, ◌<◌, min, ℤ, pos, negsuc, neg_ℤ, nat_abs, ◌+ℤ◌, ◌-ℤ◌, ◌*ℤ◌, ◌≤ℤ◌, ◌<ℤ◌}
use Rattle.std.proofs.Common.{ap, ◌∙◌, arith, lit<, pow_pos}
use Rattle.std.proofs.Math.IntN.{+ℤ_comm}
use Rattle.laws.specs.Diff.{eq-in, up_neg, dn-neg, add-out, sub_out, up-mul, dn-mul}
use Rattle.laws.specs.Floor.{floor, floor-out, shr_z-add}
use Rattle.laws.specs.Signed.{signed as kit}
use Rattle.units.specs.Meaning.{by_size, floor_to}
use Rattle.units.specs.Theorems.{floor-below}
use Rattle.results.specs.Meaning.{sign_of, rem_euclid, quot_euclid}

-- ---- a = q b + r with 0 <= r < |b|
put_back : (a p : ℤ) → p +ℤ (a -ℤ p) ≡ a
put_back a p = omega (kit, sub_out a p, add-out p (a -ℤ p))

pub euclid-whole : (a b : ℤ) → quot_euclid a b *ℤ b +ℤ rem_euclid a b ≡ a
unfolding quot_euclid
euclid-whole a (pos b) = put_back a (floor_to a b)
euclid-whole a (negsuc b) =
    let q = floor a (suc b) in
    let e : neg_ℤ q *ℤ negsuc b ≡ floor_to a (suc b) = eq-in (neg_ℤ q *ℤ negsuc b) (floor_to a (suc b)) (simp (up-mul, dn-mul, up_neg, dn-neg) (omega arith)) in
    ap (λ (z : ℤ). z +ℤ rem_euclid a (negsuc b)) e ∙ put_back a (floor_to a (suc b))

pub euclid-rest : (a b : ℤ) → 0 < nat_abs b → (pos 0 ≤ℤ rem_euclid a b) × (rem_euclid a b <ℤ pos (nat_abs b))
euclid-rest a b h =
    let p = floor_to a (nat_abs b) in
    let f = floor-below a (nat_abs b) h in
    (omega (kit, f.0, sub_out a p), omega (kit, f.1, sub_out a p, add-out p (pos (nat_abs b))))

-- ---- the mean lies between the two, and the order of the two does not matter
pub mean-between : (a b : ℤ) → a ≤ℤ b → (a ≤ℤ floor (a +ℤ b) 2) × (floor (a +ℤ b) 2 ≤ℤ b)
mean-between a b h =
    let f = floor-out (a +ℤ b) 2 (lit< tt) in
    (omega (kit, f, add-out a b), omega (kit, f, add-out a b))

pub mean-symmetric : (a b : ℤ) → floor (a +ℤ b) 2 ≡ floor (b +ℤ a) 2
mean-symmetric a b = ap (λ (z : ℤ). floor z 2) (+ℤ_comm a b)

-- ---- the distance: symmetric
abs-turned : (z : ℤ) → nat_abs (neg_ℤ z) ≡ nat_abs z
abs-turned (pos zero) = refl
abs-turned (pos (suc n)) = refl
abs-turned (negsuc n) = refl

pub dist-symmetric : (a b : ℤ) → nat_abs (a -ℤ b) ≡ nat_abs (b -ℤ a)
dist-symmetric a b =
    let e : a -ℤ b ≡ neg_ℤ (b -ℤ a) = omega (kit, sub_out a b, sub_out b a, up_neg (b -ℤ a), dn-neg (b -ℤ a)) in
    ap nat_abs e ∙ abs-turned (b -ℤ a)

-- ---- a number is its sign times its absolute value
pub sign-abs : (a : ℤ) → sign_of a *ℤ pos (nat_abs a) ≡ a
unfolding by_size
sign-abs (pos zero) = refl
sign-abs (pos (suc n)) = eq-in (pos (min (suc n) 1) *ℤ pos (suc n)) (pos (suc n)) (omega (arith, ap (λ (k : ℕ). k * suc n) (one n)))
  where
    one : (n : ℕ) → min (suc n) 1 ≡ 1
    one n = omega arith
sign-abs (negsuc n) =
    let e : neg_ℤ (pos (min (suc n) 1)) ≡ negsuc 0 = ap (λ (k : ℕ). neg_ℤ (pos k)) (one n) in
    ap (λ (z : ℤ). z *ℤ pos (suc n)) e ∙ eq-in (negsuc 0 *ℤ pos (suc n)) (negsuc n) (simp (up-mul, dn-mul) (omega arith))
  where
    one : (n : ℕ) → min (suc n) 1 ≡ 1
    one n = omega arith

-- ---- the sum with a product is rounded once: it is the floor of the exact a b / 2^F + c
pub mul-add-once : (a b c : ℤ) (f : ℕ) → floor (a *ℤ b +ℤ c *ℤ pos (2 ^ f)) (2 ^ f) ≡ floor (a *ℤ b) (2 ^ f) +ℤ c
mul-add-once a b c f = shr_z-add (a *ℤ b) c (2 ^ f) (pow_pos f)
