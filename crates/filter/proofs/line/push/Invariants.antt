-- `line::push` meets its contract. The loop's invariant: the first i places are those of x and the old line behind it, the rest is the old line's,
-- and the sample in hand is the next. The measure is what is left. Assumes nothing.
use mathlib.Core.Path.{◌≡◌}
use mathlib.Core.List.{◌∷◌, ◌++◌}
use Prim.Native.Nat.{◌≤◌}
use lib.IntN.{pos}
use lib.ListN.{length, take, drop, get_or}
use Rattle.filter.specs.Meaning.{most_taps}
use Rattle.filter.proofs.line.push.Given as goal

abbrev pub invariant-loop-place : goal.invariant-loop-place
invariant-loop-place l =
    (l.place-index ≤ most_taps)
    × ((length l.initial.line ≡ most_taps)
    × ((l.line ≡ take l.place-index (l.x ∷ l.initial.line) ++ drop l.place-index l.initial.line) × (l.carried ≡ get_or (l.x ∷ l.initial.line) l.place-index (pos 0))))
