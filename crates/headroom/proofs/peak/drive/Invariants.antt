-- `peak::drive` meets its contract. The loop's invariant: the first i places hold the driven samples of the first i taps.
-- Assumes nothing.
use mathlib.Core.Path.{◌≡◌}
use mathlib.Core.List.{map}
use Prim.Native.Nat.{◌≤◌}
use lib.ListN.{length, take}
use Rattle.filter.specs.Meaning.{most_taps}
use Rattle.headroom.specs.Meaning.{driven_of}
use Rattle.headroom.proofs.peak.drive.Given as goal

abbrev pub invariant-loop-i : goal.invariant-loop-i
invariant-loop-i l = (l.i ≤ length l.taps) × ((length l.line ≡ most_taps) × (take l.i l.line ≡ map (driven_of l.way) (take l.i l.taps)))
