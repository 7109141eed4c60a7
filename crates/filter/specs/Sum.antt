-- The laws of the exact sum that the loop over the taps uses, and an output as the code holds it. Assumes nothing.
use Rattle.std.specs.Prelude.{◌≡◌, refl, List, [], ◌∷◌, ℕ, ◌+◌, ◌<◌, ℤ, pos, ◌+ℤ◌, ◌*ℤ◌, length, drop, take, get_or}
use Rattle.std.proofs.Common.{add-one, drop-cons}
use Rattle.std.proofs.Math.Seq.{drop-length}
use Rattle.filter.specs.declared.sum.Held.{Held}
use Rattle.filter.specs.Meaning.{sum_of, held, clips}

abbrev pub held_of : ℤ → Held
held_of y = record { value = held y; clipped = clips y }

-- what is left to sum from i on: its first product and the rest; and nothing, at the end
pub sum_step : (ts ss : List ℤ) (i : ℕ) → i < length ts → i < length ss
    → sum_of (drop i ts) (drop i ss) ≡ get_or ts i (pos 0) *ℤ get_or ss i (pos 0) +ℤ sum_of (drop (i + 1) ts) (drop (i + 1) ss)
unfolding sum_of
sum_step ts ss i h k = rw (add-one, drop-cons ts i (pos 0) h, drop-cons ss i (pos 0) k)

pub sum-end : (ts ss : List ℤ) → sum_of (drop (length ts) ts) ss ≡ pos 0
unfolding sum_of
sum-end ts ss = rw (drop-length ts)

-- only as many samples count as there are taps
pub sum-take : (ts ss : List ℤ) → sum_of ts (take (length ts) ss) ≡ sum_of ts ss
unfolding sum_of
sum-take [] ss = refl
sum-take (t ∷ ts) [] = refl
sum-take (t ∷ ts) (s ∷ ss) = rw (sum-take ts ss)
