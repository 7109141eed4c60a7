-- `float::rounding::scaled` meets its contract, by which of the two powers is larger. Assumes nothing.
use mathlib.Core.Path.{◌∙◌, ap}
use Prim.Native.Nat.{ℕ, ◌-◌, ◌*◌, ◌%◌, ◌^◌}
use native.Mathlib.Omega.{arith}
use Rattle.float.proofs.Scaling.{less-up, some_up, far-up, nothing_left}
use Rattle.float.proofs.rounding.scaled.Goals as goal
use Rattle.float.proofs.rounding.scaled.Goals.{then-k-lt64, else-k-lt64}

pub returns-then-up-down : goal.returns-then-up-down
returns-then-up-down c =
    less-up _ _ _ c.if-up-down.true (c.into.ensures
    ∙ elim c.if-k-lt64.branch [ then-k-lt64 w ↦ w.low-is ∙ w.nearest-low.ensures | else-k-lt64 w ↦ w.low-is ∙ nothing_left _ _ c.requires w.if-k-lt64.false ])

pub returns-then-k-lt64-2 : goal.returns-then-k-lt64-2
returns-then-k-lt64-2 c =
    some_up _ _ _ (omega arith) (omega arith) (omega arith) (c.shl.ensures
    ∙ ap (λ (n : ℕ). n * 2 ^ (c.args.up - c.args.down) % 2 ^ 128) c.into-then-k-lt64-2.ensures)

pub returns : goal.returns
returns c = far-up _ _ _ (omega arith) (omega arith)
