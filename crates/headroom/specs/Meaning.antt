-- The headroom check over lists of integers: document 01, module 8. It stands on the meaning of the filter: what the
-- taps make of samples is its level. Assumes nothing.
use Rattle.std.specs.Prelude.{Err, Bool, false, cond, List, map, ℕ, eqb, ℤ, pos, length}
use Rattle.std.specs.Int.Signed.{lt_z}
use Rattle.format.specs.Meaning.{signed, lowest, highest, Answered, named, guarded}
use Rattle.filter.specs.Meaning.{level_of, taps_fault, done_with}
use Rattle.headroom.specs.declared.peak.Way.{Way}
use Rattle.headroom.specs.declared.peak.Way.TheVariants.{High, Low}

-- "each is the end of the range that drives its term furthest that way, and 0 for a zero tap"
unfoldable pub by_sign : ℤ → ℤ → ℤ → ℤ
by_sign tap above below = cond (lt_z (pos 0) tap) above (cond (lt_z tap (pos 0)) below (pos 0))

unfoldable pub driven_of : Way → ℤ → ℤ
driven_of High tap = by_sign tap (highest signed 16) (lowest signed 16)
driven_of Low tap = by_sign tap (lowest signed 16) (highest signed 16)

-- "n samples, newest first, that clip that way"
abbrev pub driving : Way → List ℤ → List ℤ
driving way taps = map (driven_of way) taps

-- past the end of the range that way
unfoldable pub passes : Way → ℤ → Bool
passes High y = lt_z (highest signed 16) y
passes Low y = lt_z y (lowest signed 16)

-- what the taps make of the samples that drive them furthest that way (Theorems: no samples reach further)
unfoldable pub clips_way : Way → List ℤ → Bool
clips_way way taps = passes way (level_of taps (driving way taps))

-- "Verdict 0: no samples clip. 1: some samples clip high; 2: none clip high,
-- some clip low." (Theorems: `sound`, `complete`)
unfoldable pub verdict_of : List ℤ → ℕ
verdict_of taps = cond (clips_way High taps) 1 (cond (clips_way Low taps) 2 0)

-- "With 1 or 2 the lent sample buffer, of exactly n places, holds n samples"; "With 0 it is unchanged."
unfoldable pub witness_of : List ℤ → List ℤ → List ℤ
witness_of taps before =
    cond (clips_way High taps) (driving High taps) (cond (clips_way Low taps) (driving Low taps) before)

-- What is refused: "lists of unequal length" is 5, before what the filter refuses of the taps; 0 where nothing is.
unfoldable pub head_fault : ℕ → ℕ → ℕ
head_fault n places = cond (eqb n places) (taps_fault n) 5

-- What the call leaves: the verdict, and the witness.
pub record Headed : Type 0 where
  pub answer : Answered ℕ
  pub witness : List ℤ

abbrev pub headed : Answered ℕ → List ℤ → Headed
headed answer witness = record { answer = answer; witness = witness }

unfoldable pub headroom_of : List ℤ → List ℤ → Headed
headroom_of taps witness =
    guarded (head_fault (length taps) (length witness))
    (λ n. headed (Err (named n)) witness)
    (headed (done_with (verdict_of taps) false) (witness_of taps witness))
