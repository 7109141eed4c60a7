-- What is proved of one output and of its exact sum, and of a run of negated samples. Assumes nothing.
use Rattle.std.specs.Prelude.{◌≡◌, refl, ◌↔◌, Bool, true, false, List, [], ◌∷◌, ◌*◌, ◌%◌, ◌^◌, ◌≤◌, ℤ, neg_ℤ, nat_abs, ◌*ℤ◌, length}
use Rattle.std.proofs.Common.{ap, arith, SFits}
use Rattle.std.specs.Int.{w64}
use Rattle.laws.specs.Bound.{abs-add-le, abs-sfits, sfits-mul}
use Rattle.format.specs.Meaning.{signed, lowest}
use Rattle.filter.specs.Meaning.{most_taps, next, sum_of, level_of, output_of, clip_of}
use Rattle.filter.specs.Meaning.{outputs_of, clips_of, bit_of, clipped, run_of}
use Rattle.filter.specs.Range.{Samples, more, sample-sfits, sample-keeps, unclipped}
use Rattle.filter.specs.Mirror.{mirror, next-mirror, held-mirror, flags-mirror}
use Rattle.filter.proofs.Mirror.{level-mirror}
use Rattle.filter.proofs.Rounding.{rounded-near, rounded-tie, rounded-only}
use Rattle.filter.specs.Theorems.{off}

-- where nothing clips, the output is at most half a step from the exact quotient P / 2^15; where it is half a step, the output is even;
-- and no other number has both
module _ (taps h : List ℤ) where
  kept : clip_of taps h ≡ false → output_of taps h ≡ level_of taps h
  unfolding clip_of output_of
  kept c = (sample-keeps (level_of taps h) (unclipped (level_of taps h) c)).1

  pub output-near : clip_of taps h ≡ false → off taps h (output_of taps h) * 2 ≤ 2 ^ 15
  unfolding level_of
  output-near c = rw (kept c) (rounded-near (sum_of taps h))

  pub output-tie : clip_of taps h ≡ false → off taps h (output_of taps h) * 2 ≡ 2 ^ 15 → nat_abs (output_of taps h) % 2 ≡ 0
  unfolding level_of
  output-tie c t = rw (kept c) (rounded-tie (sum_of taps h) (rw (kept c) at t))

  pub output-only : (y : ℤ) → clip_of taps h ≡ false → off taps h y * 2 ≤ 2 ^ 15 → (off taps h y * 2 ≡ 2 ^ 15 → nat_abs y % 2 ≡ 0) → y ≡ output_of taps h
  unfolding level_of
  output-only y c n t = rw (kept c) (rounded-only (sum_of taps h) y n t)

-- NO OFFSET. The rule is the same either side of 0: negated samples have the negated level, always (`level-mirror`), and the negated output exactly
-- where neither of the two outputs is -32768, the end of the range that has no counterpart. (`mirror` negates each sample.)
pub output-mirror : (taps h : List ℤ)
    → (output_of taps (mirror h) ≡ neg_ℤ (output_of taps h))
    ↔ ((output_of taps h ≡ lowest signed 16 → ⊥) × (output_of taps (mirror h) ≡ lowest signed 16 → ⊥))
unfolding output_of
output-mirror taps h = rw (level-mirror taps h) (held-mirror (level_of taps h))

-- the exact sum is at most 2^30 for each tap, 2^36 for 64: the word of 63 bits and a sign has 27 bits to spare
sum-abs : (taps h : List ℤ) → Samples taps → Samples h → nat_abs (sum_of taps h) ≤ length taps * 2 ^ 30
unfolding sum_of
sum-abs [] h s k = omega arith
sum-abs (t ∷ ts) [] s k = omega arith
sum-abs (t ∷ ts) (x ∷ h) (more a s) (more b k) =
    omega (arith, abs-add-le (t *ℤ x) (sum_of ts h) (sfits-mul (sample-sfits t a) (sample-sfits x b)) (sum-abs ts h s k))

pub sum_bound : (taps h : List ℤ) → Samples taps → Samples h → length taps ≤ most_taps → nat_abs (sum_of taps h) ≤ most_taps * 2 ^ 30
sum_bound taps h s k few = omega (arith, sum-abs taps h s k)

pub sum_fits : (taps h : List ℤ) → Samples taps → Samples h → length taps ≤ most_taps → SFits w64 (sum_of taps h)
sum_fits taps h s k few = abs-sfits w64 (sum_of taps h) (omega (arith, sum_bound taps h s k few))

-- a block of negated samples from the negated state: where neither run clips, its outputs are the negated outputs
no_flag : (b : Bool) (flags : List Bool) → clipped (b ∷ flags) ≡ 0 → (b ≡ false) × (clipped flags ≡ 0)
unfolding clipped bit_of
no_flag true flags e = absurd (omega arith)
no_flag false flags e = (refl, omega arith)

quiet-mirror : (taps h : List ℤ) → clip_of taps h ≡ false → clip_of taps (mirror h) ≡ false → output_of taps (mirror h) ≡ neg_ℤ (output_of taps h)
unfolding clip_of output_of
quiet-mirror taps h c d = rw (level-mirror taps h) (flags-mirror (level_of taps h) c (rw (level-mirror taps h) at d))

pub run-mirror : (taps h xs : List ℤ) → clipped (run_of taps h xs).flags ≡ 0 → clipped (run_of taps (mirror h) (mirror xs)).flags ≡ 0
    → (run_of taps (mirror h) (mirror xs)).outputs ≡ mirror (run_of taps h xs).outputs
unfolding run_of outputs_of clips_of
run-mirror taps h [] a b = refl
run-mirror taps h (x ∷ xs) a b =
    let new = next h x in
    let e = next-mirror h x in
    let here = no_flag (clip_of taps new) (clips_of taps new xs) a in
    let there = rw e at (no_flag (clip_of taps (next (mirror h) (neg_ℤ x))) (clips_of taps (next (mirror h) (neg_ℤ x)) (mirror xs)) b) in
    rw (e, quiet-mirror taps new here.0 there.0) (ap (λ ys. neg_ℤ (output_of taps new) ∷ ys) (run-mirror taps new xs here.1 there.1))
