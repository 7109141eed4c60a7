-- The verdict by two sums of the taps: A of the taps above 0, and B of the magnitudes of those below. The driving samples make 32767 A + 32768 B of
-- them on the way high and -(32768 A + 32767 B) on the way low, and whether the rounding takes that past the end is a comparison. Assumes nothing.
use Rattle.std.specs.Prelude.{◌≡◌, refl, ◌⊎◌, true, false, List, [], ◌∷◌, ℕ, zero, suc, ◌+◌, ◌*◌, ◌-◌, ◌%◌, ◌^◌, ◌≤◌, ◌<◌, ℤ, pos, negsuc, neg_ℤ, nat_abs, ◌*ℤ◌}
use Rattle.std.proofs.Common.{ap, inl, inr}
use Rattle.std.proofs.Math.Decide.{dec_le}
use native.Mathlib.Omega.{arith}
use Rattle.laws.specs.Bound.{abs-out}
use Rattle.laws.specs.Diff.{up, dn, add-out, up_neg, dn-neg, up-mul, dn-mul, orders}
use Rattle.laws.specs.Ring.{+ℤ-neg}
use Rattle.laws.specs.Signed.{signed}
use Rattle.format.specs.Meaning.{lowest, highest}
use Rattle.filter.specs.Meaning.{sum_of, rounded, level_of}
use Rattle.filter.specs.Rounding.{rounded-is}
use Rattle.headroom.specs.declared.peak.Way.{Way}
use Rattle.headroom.specs.declared.peak.Way.TheVariants.{High, Low}
use Rattle.headroom.specs.Meaning.{driven_of, driving, passes, clips_way}
use Rattle.headroom.specs.Drive.{by-above, by-below, by_zero}

-- A and B, in steps; and the magnitudes of all taps
unfoldable pub sum_above : List ℤ → ℕ
sum_above [] = 0
sum_above (t ∷ taps) = up t + sum_above taps

unfoldable pub sum_below : List ℤ → ℕ
sum_below [] = 0
sum_below (t ∷ taps) = dn t + sum_below taps

unfoldable pub magnitudes : List ℤ → ℕ
magnitudes [] = 0
magnitudes (t ∷ taps) = nat_abs t + magnitudes taps

pub magnitudes-are : (taps : List ℤ) → magnitudes taps ≡ sum_above taps + sum_below taps
unfolding sum_above sum_below magnitudes
magnitudes-are [] = refl
magnitudes-are (t ∷ taps) = omega (arith, abs-out t, magnitudes-are taps)

-- what the driving samples make of one tap, and of all
term-high : (t : ℤ) → t *ℤ driven_of High t ≡ pos (up t * 32767 + dn t * 32768)
unfolding driven_of lowest highest
term-high (pos zero) = rw by_zero
term-high (pos (suc n)) = rw by-above (omega (orders, up-mul (pos (suc n)) (pos 32767), dn-mul (pos (suc n)) (pos 32767)))
term-high (negsuc n) = rw by-below (omega (orders, up-mul (negsuc n) (negsuc 32767), dn-mul (negsuc n) (negsuc 32767)))

term-low : (t : ℤ) → t *ℤ driven_of Low t ≡ neg_ℤ (pos (up t * 32768 + dn t * 32767))
unfolding driven_of lowest highest
term-low t = go t (up t * 32768 + dn t * 32767) refl
  where
    go : (t : ℤ) (m : ℕ) → m ≡ up t * 32768 + dn t * 32767 → t *ℤ driven_of Low t ≡ neg_ℤ (pos m)
    go (pos zero) m e = rw (by_zero, e)
    go (pos (suc n)) m e =
        rw by-above (omega (orders, up-mul (pos (suc n)) (negsuc 32767), dn-mul (pos (suc n)) (negsuc 32767), up_neg (pos m), dn-neg (pos m)))
    go (negsuc n) m e =
        rw by-below (omega (orders, up-mul (negsuc n) (pos 32767), dn-mul (negsuc n) (pos 32767), up_neg (pos m), dn-neg (pos m)))

-- the two peaks
unfoldable pub peak_of : Way → List ℤ → ℕ
peak_of High taps = sum_above taps * 32767 + sum_below taps * 32768
peak_of Low taps = sum_above taps * 32768 + sum_below taps * 32767

pub peak-high : (taps : List ℤ) → sum_of taps (driving High taps) ≡ pos (peak_of High taps)
unfolding sum_of sum_above sum_below peak_of
peak-high [] = refl
peak-high (t ∷ taps) = rw (term-high t, peak-high taps) (omega (orders, add-out (pos (up t * 32767 + dn t * 32768)) (pos (peak_of High taps))))

pub peak-low : (taps : List ℤ) → sum_of taps (driving Low taps) ≡ neg_ℤ (pos (peak_of Low taps))
unfolding sum_of sum_above sum_below peak_of
peak-low [] = refl
peak-low (t ∷ taps) =
    let more : up t * 32768 + dn t * 32767 + peak_of Low taps ≡ peak_of Low (t ∷ taps) = omega arith in
    rw (term-low t, peak-low taps, +ℤ-neg) (ap (λ n. neg_ℤ (pos n)) more)

-- Where the rounding passes an end: high from 32767.5 steps on, since 32768 is even; low only below -32768.5, for the same reason.
abbrev from_high : ℕ
from_high = 2 ^ 30 - 2 ^ 14

abbrev up_to_low : ℕ
up_to_low = 2 ^ 30 + 2 ^ 14

-- 32767 and -32769 are odd
odd-high : (y : ℤ) → up y ≡ 32767 + dn y → nat_abs y % 2 ≡ 0 → ⊥
odd-high y e o = omega (arith, abs-out y)

odd_low : (y : ℤ) → dn y ≡ 32769 + up y → nat_abs y % 2 ≡ 0 → ⊥
odd_low y e o = omega (arith, abs-out y)

module _ (m : ℕ) where
  abbrev up-there : ℤ
  up-there = rounded (pos m)

  abbrev down-there : ℤ
  down-there = rounded (neg_ℤ (pos m))

  high-from : passes High up-there ≡ true → from_high ≤ m
  unfolding passes highest
  high-from h = omega (signed, (rounded-is (pos m)).above)

  high-not : passes High up-there ≡ false → m < from_high
  unfolding passes highest
  high-not h = go (dec_le from_high m)
    where
      go : Dec (from_high ≤ m) → m < from_high
      go (no l) = omega arith
      go (yes l) =
          let near = rounded-is (pos m) in
          absurd (odd-high up-there (omega (signed, near.below)) (near.tie-below (omega (signed, near.below))))

  low-from : passes Low down-there ≡ true → up_to_low < m
  unfolding passes lowest
  low-from h = go (dec_le m up_to_low)
    where
      go : Dec (m ≤ up_to_low) → up_to_low < m
      go (no l) = omega arith
      go (yes l) =
          let near = rounded-is (neg_ℤ (pos m)) in
          absurd
          (odd_low down-there
          (omega (signed, near.below, up_neg (pos m), dn-neg (pos m)))
          (near.tie-below (omega (signed, near.below, up_neg (pos m), dn-neg (pos m)))))

-- so each test of the verdict is a comparison with a peak
module _ (taps : List ℤ) where
  abbrev A : ℕ
  A = sum_above taps

  abbrev B : ℕ
  B = sum_below taps

  clips-high : clips_way High taps ≡ true → from_high ≤ A * 32767 + B * 32768
  unfolding clips_way level_of peak_of
  clips-high c = high-from (peak_of High taps) (rw (peak-high taps) at c)

  spares-high : clips_way High taps ≡ false → A * 32767 + B * 32768 < from_high
  unfolding clips_way level_of peak_of
  spares-high c = high-not (peak_of High taps) (rw (peak-high taps) at c)

  clips-low : clips_way Low taps ≡ true → up_to_low < A * 32768 + B * 32767
  unfolding clips_way level_of peak_of
  clips-low c = low-from (peak_of Low taps) (rw (peak-low taps) at c)

  -- where none clip high, none clip low
  pub no-low : clips_way High taps ≡ false → clips_way Low taps ≡ true → ⊥
  no-low h l = omega (arith, spares-high h, clips-low l)

  -- CLOSED FORM. A + B is at most 32767; or it is 32768, and B is below 16384
  abbrev pub Small : Type 0
  Small = (A + B ≤ 32767) ⊎ ((A + B ≡ 32768) × (B < 16384))

  pub small-then : Small → clips_way High taps ≡ true → ⊥
  small-then (inl h) c = omega (arith, clips-high c)
  small-then (inr h) c = omega (arith, clips-high c, h.0, h.1)

  pub then-small : clips_way High taps ≡ false → Small
  then-small c = go (dec_le (A + B) 32767)
    where
      go : Dec (A + B ≤ 32767) → Small
      go (yes h) = inl h
      go (no h) = inr (omega (arith, spares-high c), omega (arith, spares-high c))
