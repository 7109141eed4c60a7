-- `sum::dot` meets its contract. The loop's invariant: the sum so far and what is left to sum are the whole sum, and the sum so far is at most
-- 2 ^ 30 for each product in it. Assumes nothing.
use mathlib.Core.Path.{◌≡◌}
use Prim.Native.Nat.{◌*◌, ◌^◌, ◌≤◌}
use lib.IntN.{nat_abs, ◌+ℤ◌}
use lib.ListN.{length, drop}
use Rattle.filter.specs.Meaning.{sum_of}
use Rattle.filter.proofs.sum.dot.Given as goal

abbrev pub invariant-loop-i : goal.invariant-loop-i
invariant-loop-i l =
    (l.i ≤ length l.taps) × ((nat_abs l.sum ≤ l.i * 2 ^ 30) × (l.sum +ℤ sum_of (drop l.i l.taps) (drop l.i l.line) ≡ sum_of l.taps l.line))
