-- The laws of the rounding: it is the one whole number within half a step of p / 2^15 that is even at a tie; so it keeps the order, 0 and the sign.
-- Nothing above looks further into it. Assumes nothing.
use Rattle.std.specs.Prelude.{◌≡◌, refl, false, ◌⊎◌, ℕ, suc, ◌+◌, ◌*◌, ◌/◌, ◌%◌, ◌^◌, ◌≤◌, ℤ, pos, negsuc, neg_ℤ, nat_abs, ◌-ℤ◌, ◌*ℤ◌, ◌≤ℤ◌, ◌<ℤ◌}
use Rattle.std.proofs.Common.{inl, inr, arith, lit<}
use Rattle.std.specs.Int.Signed.{lt_z, ≤ℤ_refl}
use Rattle.laws.specs.Bound.{abs-in, abs-out}
use Rattle.laws.specs.Diff.{up, dn, sub_out, up_neg, dn-neg, orders}
use Rattle.laws.specs.Nearest.{Nearest, nearest, nearest_even, nearest_by}
use Rattle.laws.specs.Order.{mul-out, <ℤ-or-≥ℤ, ≤ℤ-antisym}
use Rattle.laws.specs.Tests.{le-lt_z}
use Rattle.format.specs.Meaning.{with_sign}
use Rattle.filter.specs.Meaning.{rounded}

-- q is a whole number within half a step of p / 2^15, and even at a tie. The distances are of the two naturals of each, for `omega`
pub record Near (p q : ℤ) : Type 0 where
  pub below : up p * 2 + dn q * 2 ^ 16 ≤ up q * 2 ^ 16 + dn p * 2 + 2 ^ 15
  pub above : up q * 2 ^ 16 + dn p * 2 ≤ up p * 2 + dn q * 2 ^ 16 + 2 ^ 15
  pub tie-below : up p * 2 + dn q * 2 ^ 16 ≡ up q * 2 ^ 16 + dn p * 2 + 2 ^ 15 → nat_abs q % 2 ≡ 0
  pub tie-above : up q * 2 ^ 16 + dn p * 2 ≡ up p * 2 + dn q * 2 ^ 16 + 2 ^ 15 → nat_abs q % 2 ≡ 0

-- the rule is the same either side of 0
abs-turned : (q : ℤ) → nat_abs (neg_ℤ q) ≡ nat_abs q
abs-turned q = omega (arith, abs-out q, abs-out (neg_ℤ q), up_neg q, dn-neg q)

pub near-turned : (p q : ℤ) → Near p q → Near (neg_ℤ p) (neg_ℤ q)
near-turned p q r =
    record {
      below = omega (arith, r.above, up_neg p, dn-neg p, up_neg q, dn-neg q);
      above = omega (arith, r.below, up_neg p, dn-neg p, up_neg q, dn-neg q);
      tie-below = λ t. rw (abs-turned q) (r.tie-above (omega (arith, up_neg p, dn-neg p, up_neg q, dn-neg q)));
      tie-above = λ t. rw (abs-turned q) (r.tie-below (omega (arith, up_neg p, dn-neg p, up_neg q, dn-neg q)));
    }

-- the magnitude is rounded, and the sign put back
near-pos : (m q : ℕ) → Nearest m (2 ^ 15) q → Near (pos m) (pos q)
near-pos m q r =
    record {
      below = omega (arith, r.below);
      above = omega (arith, r.above);
      tie-below = λ t. r.tie-below (omega arith);
      tie-above = λ t. r.tie-above (omega arith);
    }

not-below : (m : ℕ) → lt_z (pos m) (pos 0) ≡ false
not-below m =
    let h : pos 0 ≤ℤ pos m = omega orders in
    le-lt_z h

pub rounded-is : (p : ℤ) → Near p (rounded p)
unfolding rounded with_sign
rounded-is (pos m) = rw (not-below m) (near-pos m (nearest_even m (2 ^ 15)) (nearest m (2 ^ 15) (lit< tt)))
rounded-is (negsuc m) =
    let q = nearest_even (suc m) (2 ^ 15) in
    near-turned (pos (suc m)) (pos q) (near-pos (suc m) q (nearest (suc m) (2 ^ 15) (lit< tt)))

-- of two neighbours one is odd
neighbours : (p q : ℤ) → nat_abs p % 2 ≡ 0 → nat_abs q % 2 ≡ 0 → up p + dn q ≡ up q + dn p + 1 → ⊥
neighbours p q e f n = go (nat_abs p / 2) (nat_abs q / 2) (omega (arith, abs-out p)) (omega (arith, abs-out q))
  where
    go : (k l : ℕ) → up p + dn p ≡ k * 2 → up q + dn q ≡ l * 2 → ⊥
    go k l e f = omega arith

-- such numbers keep the order: if q were below p, both would be ties, next to each other, and even
pub near-mono : {a b p q : ℤ} → Near a p → Near b q → a ≤ℤ b → p ≤ℤ q
near-mono {a} {b} {p} {q} f g h = pick (<ℤ-or-≥ℤ q p)
  where
    pick : (q <ℤ p) ⊎ (p ≤ℤ q) → p ≤ℤ q
    pick (inl l) =
        let high = f.tie-above (omega (orders, f.above, g.below)) in
        let low = g.tie-below (omega (orders, f.above, g.below)) in
        absurd (neighbours p q high low (omega (orders, f.above, g.below)))
    pick (inr l) = l

-- so there is one
pub near-unique : {p q r : ℤ} → Near p q → Near p r → q ≡ r
near-unique {p} f g = ≤ℤ-antisym (near-mono f g (≤ℤ_refl p)) (near-mono g f (≤ℤ_refl p))

pub rounded-zero : rounded (pos 0) ≡ pos 0
unfolding rounded with_sign nearest_even nearest_by
rounded-zero = refl

-- by distance: half a step at most, even where it is half a step, and no other whole number has both
module _ (p q : ℤ) where
  abbrev gap : ℤ
  gap = p -ℤ q *ℤ pos (2 ^ 15)

  gap-out : up gap + (dn p + up q * 2 ^ 15) ≡ (up p + dn q * 2 ^ 15) + dn gap
  gap-out = omega (arith, mul-out q (2 ^ 15), sub_out p (q *ℤ pos (2 ^ 15)))

  pub near-gap : Near p q → nat_abs gap * 2 ≤ 2 ^ 15
  near-gap r = omega (arith, abs-in gap {n = 2 ^ 14} (omega (arith, gap-out, r.below)) (omega (arith, gap-out, r.above)))

  pub near-tie : Near p q → nat_abs gap * 2 ≡ 2 ^ 15 → nat_abs q % 2 ≡ 0
  near-tie r t = go gap gap-out t
    where
      go : (d : ℤ) → up d + (dn p + up q * 2 ^ 15) ≡ (up p + dn q * 2 ^ 15) + dn d → nat_abs d * 2 ≡ 2 ^ 15 → nat_abs q % 2 ≡ 0
      go (pos n) e t = r.tie-below (omega arith)
      go (negsuc n) e t = r.tie-above (omega arith)

  pub gap-near : nat_abs gap * 2 ≤ 2 ^ 15 → (nat_abs gap * 2 ≡ 2 ^ 15 → nat_abs q % 2 ≡ 0) → Near p q
  gap-near h t =
      record {
        below = omega (arith, abs-out gap, gap-out);
        above = omega (arith, abs-out gap, gap-out);
        tie-below = λ e. t (omega (arith, abs-out gap, gap-out));
        tie-above = λ e. t (omega (arith, abs-out gap, gap-out));
      }
