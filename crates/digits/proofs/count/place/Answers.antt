-- `digits::count::place` meets its contract. The invariant: the bytes passed and those up to the digit that is wanted in what is left make up the answer.
-- Assumes nothing.
use Rattle.std.proofs.Common.{ℕ, ◌+◌, ap, arith, length, drop}
use Rattle.digits.specs.Meaning.{head_of}
use Rattle.digits.proofs.Ends.{turn, head-stop, head-skip, head_more, head-end}
use Rattle.digits.proofs.count.place.Goals as goal
use Rattle.digits.proofs.count.place.Goals.{then-b-ne95, else-b-ne95}

pub returns-then-wanted-eq0 : goal.returns-then-wanted-eq0
returns-then-wanted-eq0 c =
    let e = turn c.args.run.now c.loop-i.i (omega arith) in
    omega (arith, head-stop e _ c.if-wanted-eq0.true)

pub loop-i-preserved : goal.loop-i-preserved
loop-i-preserved c =
    let t = c.args.run.now in
    let i = c.loop-i.i in
    let e = turn t i (omega arith) in
    elim c.if-b-ne95.branch [
      | then-b-ne95 w ↦ omega (arith, head_more e _ c.if-wanted-eq0.false w.if-b-ne95.true, ap (λ (n : ℕ). length (head_of (drop (i + 1) t) n)) w.wanted-is)
      | else-b-ne95 w ↦ omega (arith, head-skip e _ c.if-wanted-eq0.false w.if-b-ne95.false, ap (λ (n : ℕ). length (head_of (drop (i + 1) t) n)) w.wanted-is)
    ]

pub returns : goal.returns
returns c = omega (arith, head-end c.args.run.now c.loop-i.wanted c.loop-i.i (omega arith))
