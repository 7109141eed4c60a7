-- What is known where nothing is refused, and the verdict as the code has it: the filter's level on a line that starts with the driving samples.
-- Assumes nothing.
use Rattle.std.specs.Prelude.{◌≡◌, Bool, true, false, List, ℕ, ◌≤◌, ℤ, length, take, Option, None, Some}
use Rattle.filter.specs.Meaning.{most_taps, level_of, taps_fault}
use Rattle.filter.specs.Refuse.{taps-few, same_then}
use Rattle.filter.specs.Sum.{sum-take}
use Rattle.headroom.specs.declared.peak.Way.{Way}
use Rattle.headroom.specs.declared.peak.Way.TheVariants.{High, Low}
use Rattle.headroom.specs.Meaning.{driving, passes, clips_way, verdict_of, witness_of, head_fault}

-- where nothing is refused
pub head-fit : (n places : ℕ) → head_fault n places ≡ 0 → (n ≡ places) × (n ≤ most_taps)
unfolding head_fault
head-fit n places h =
    let a = same_then n places (taps_fault n) h in
    (a.0, taps-few n a.1)

-- 01's number of a verdict
abbrev pub verdict_number : Option Way → ℕ
verdict_number None = 0
verdict_number (Some High) = 1
verdict_number (Some Low) = 2

-- the test of the level is the test of the meaning
pub test-way : (way : Way) (taps line : List ℤ) (y : ℤ) (t : Bool) → y ≡ level_of taps line → take (length taps) line ≡ driving way taps → passes way y ≡ t
    → clips_way way taps ≡ t
unfolding level_of clips_way
test-way way taps line y t e d h =
    rw (← d, sum-take taps line) (rw e at h)

-- the three verdicts, by the two tests
module _ (taps before kept : List ℤ) where
  pub verdict-high : clips_way High taps ≡ true → kept ≡ driving High taps → (1 ≡ verdict_of taps) × (kept ≡ witness_of taps before)
  unfolding verdict_of witness_of
  verdict-high h k = (rw h, rw (h, k))

  pub verdict-low : clips_way High taps ≡ false → clips_way Low taps ≡ true → kept ≡ driving Low taps → (2 ≡ verdict_of taps) × (kept ≡ witness_of taps before)
  unfolding verdict_of witness_of
  verdict-low h l k = (rw (h, l), rw (h, l, k))

  pub verdict-none : clips_way High taps ≡ false → clips_way Low taps ≡ false → kept ≡ before → (0 ≡ verdict_of taps) × (kept ≡ witness_of taps before)
  unfolding verdict_of witness_of
  verdict-none h l k = (rw (h, l), rw (h, l, k))
