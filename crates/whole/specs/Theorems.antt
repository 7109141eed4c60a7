-- What is proved of the meaning, without code: each rounding is what it is called, of z in units of m steps, and the two parts make the number.
-- Assumes nothing.
use Rattle.std.specs.Prelude.{◌≡◌, refl, Bool, true, false, cond, ℕ, suc, ◌+◌, ◌*◌, ◌/◌, ◌%◌, ◌^◌, ◌≤◌, ◌<◌, ltb, ℤ, pos, negsuc, neg_ℤ, nat_abs, ◌+ℤ◌, ◌-ℤ◌, ◌*ℤ◌, ◌≤ℤ◌, ◌<ℤ◌}
use Rattle.std.proofs.Common.{ap, arith, div-add-mod', mod-lt, le_antisymm, lt_of_mul-lt-mul_right, pow_pos, ne_eqb, ltb-true, ltb-false}
use Rattle.laws.specs.Diff.{up_neg, dn-neg, add-out, sub_out, up-mul, dn-mul}
use Rattle.laws.specs.Bound.{abs_neg}
use Rattle.laws.specs.Floor.{floor, floor-out}
use Rattle.laws.specs.Nearest.{Nearest, nearest, nearest_even}
use Rattle.laws.specs.Order.{mul-out}
use Rattle.laws.specs.Signed.{signed as kit}
use Rattle.units.specs.Meaning.{nearest_away, by_size, floor_to, ceil_to, int_part, frac_part}
use Rattle.units.specs.Theorems.{floor-below}

-- ---- up: a whole number of units, not below z and less than a unit above it (down: `floor-below` of `units`)
pub ceil-above : (z : ℤ) (m : ℕ) → 0 < m → (z ≤ℤ ceil_to z m) × (ceil_to z m <ℤ (z +ℤ pos m))
ceil-above z m h =
    let q = floor (neg_ℤ z) m in
    let facts = floor-out (neg_ℤ z) m h in (
      omega (kit, facts, up_neg z, dn-neg z, up_neg q, dn-neg q, mul-out (neg_ℤ q) m, ap (λ (n : ℕ). n * m) (up_neg q), ap (λ (n : ℕ). n * m) (dn-neg q)),
      omega (
        kit,
        facts,
        up_neg z,
        dn-neg z,
        up_neg q,
        dn-neg q,
        mul-out (neg_ℤ q) m,
        ap (λ (n : ℕ). n * m) (up_neg q),
        ap (λ (n : ℕ). n * m) (dn-neg q),
        add-out
            z (pos m),
      ),
    )

-- ---- to the nearest: q units are at most half a unit from n, and at a tie they are the more
pub record NearestAway (n m q : ℕ) : Type 0 where
  pub below : n * 2 < q * m * 2 + m
  pub above : q * m * 2 ≤ n * 2 + m

pub nearest-away : (n m : ℕ) → 0 < m → NearestAway n m (nearest_away n m)
unfolding nearest_away
nearest-away n m h = go (ltb (n % m * 2) m) refl
  where
    go : (t : Bool) → ltb (n % m * 2) m ≡ t → NearestAway n m (cond t (n / m) (n / m + 1))
    go true e =
        let l : n % m * 2 < m = ltb-true (n % m * 2) m e in
        record { below = omega (arith, l, div-add-mod' n m); above = omega (arith, l, div-add-mod' n m) }
    go false e =
        let l : m ≤ n % m * 2 = ltb-false (n % m * 2) m e in
        record { below = omega (arith, l, div-add-mod' n m, mod-lt n h); above = omega (arith, l, div-add-mod' n m, mod-lt n h) }

-- and nothing else is
pub nearest-away-unique : (n m p q : ℕ) → 0 < m → NearestAway n m p → NearestAway n m q → p ≡ q
nearest-away-unique n m p q h a b = le_antisymm (one p q a b) (one q p b a)
  where
    -- p m 2 <= n 2 + m < q m 2 + m 2, so p < q + 1
    one : (p q : ℕ) → NearestAway n m p → NearestAway n m q → p ≤ q
    one p q a b =
        let l : p * m < (q + 1) * m = omega (arith, a.above, b.below) in
        let k : p < q + 1 = lt_of_mul-lt-mul_right m l in
        omega arith

-- ties to even is `nearest` of laws; of a number with a sign both speak of its magnitude
pub size-round : (f : ℕ → ℕ) (z : ℤ) → nat_abs (by_size f z) ≡ f (nat_abs z)
unfolding by_size
size-round f (pos n) = refl
size-round f (negsuc n) = abs_neg (f (suc n))

pub round-nearest : (z : ℤ) (m : ℕ) → 0 < m → NearestAway (nat_abs z) m (nat_abs (by_size (λ (n : ℕ). nearest_away n m) z))
round-nearest z m h = rw (size-round (λ (n : ℕ). nearest_away n m) z) (nearest-away (nat_abs z) m h)

pub even-nearest : (z : ℤ) (m : ℕ) → 0 < m → Nearest (nat_abs z) m (nat_abs (by_size (λ (n : ℕ). nearest_even n m) z))
even-nearest z m h = rw (size-round (λ (n : ℕ). nearest_even n m) z) (nearest (nat_abs z) m h)

-- with the sign of z, or 0
pub round-sign : (f : ℕ → ℕ) (z : ℤ) → pos 0 ≤ℤ (by_size f z *ℤ z)
unfolding by_size
round-sign f (pos n) = omega kit
round-sign f (negsuc n) =
    omega (
      kit,
      up_neg (pos (f (suc n))),
      up-mul (neg_ℤ (pos (f (suc n)))) (negsuc n),
      dn-mul (neg_ℤ (pos (f (suc n)))) (negsuc n),
      ap (λ (k : ℕ). k * suc n)
          (up_neg (pos (f (suc n)))),
    )

-- ---- the two parts make the number, and with integer bits the fraction is not negative and below one
pub int-frac : (w f : ℕ) (a : ℤ) → int_part w f a +ℤ frac_part w f a ≡ a
int-frac w f a = let p = int_part w f a in omega (kit, sub_out a p, add-out p (a -ℤ p))

pub frac-range : (w f : ℕ) (a : ℤ) → (f ≡ w → ⊥) → (pos 0 ≤ℤ frac_part w f a) × (frac_part w f a <ℤ pos (2 ^ f))
unfolding int_part
frac-range w f a h =
    rw (ne_eqb f w h) (let b = floor-below a (2 ^ f) (pow_pos f) in let p = floor_to a (2 ^ f) in
    (omega (kit, b.0, sub_out a p), omega (kit, b.1, sub_out a p, add-out p (pos (2 ^ f)))))
