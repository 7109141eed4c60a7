-- `digits::len` meets its contract. The invariant: the digits counted and those of what is left make up the digits.
-- Assumes nothing.
use Rattle.std.proofs.Common.{arith}
use Rattle.digits.proofs.Ends.{turn, digits-skip, digits_more, digits-end}
use Rattle.digits.proofs.len.Goals as goal
use Rattle.digits.proofs.len.Goals.{then-b-ne95, else-b-ne95}

pub loop-b-preserved : goal.loop-b-preserved
loop-b-preserved c =
    let e = turn c.args.view.now c.loop-b.b-index (omega arith) in
    elim c.if-b-ne95.branch [
      | then-b-ne95 w ↦ (omega arith, omega (arith, digits_more e w.if-b-ne95.true))
      | else-b-ne95 w ↦ (omega arith, omega (arith, digits-skip e w.if-b-ne95.false))
    ]

pub returns : goal.returns
returns c = omega (arith, digits-end c.args.view.now c.loop-b.b-index (omega arith))
