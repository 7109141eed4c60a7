-- `tens::lifted` meets its contract. The invariant: the number with so many zeros. From 64 zeros on only whether it is 0 is left (`lift-far`).
-- Assumes nothing.
use Rattle.std.proofs.Common.{◌≡◌, ◌*◌, ◌^◌}
use Rattle.fold.specs.Fold.{fold_of, folded_value}
use Rattle.tens.proofs.lifted.Given as goal

abbrev pub invariant-loop : goal.invariant-loop
invariant-loop l = l.number ≡ fold_of (folded_value l.fn.x * 10 ^ l.counter)
