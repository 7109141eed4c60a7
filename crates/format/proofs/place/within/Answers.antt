-- `place::within` meets its contract, by the two tests. Assumes nothing.
use Rattle.std.proofs.Common.{arith}
use Rattle.format.specs.Place.{within-in, within-past}
use Rattle.format.proofs.place.within.Goals as goal
use Rattle.format.proofs.place.within.Goals.{else-high-eq0-via-then-high-eq0+else-inside, else-high-eq0-via-else-high-eq0}

pub returns-then-inside : goal.returns-then-inside
returns-then-inside c = within-in _ _ _ c.if-high-eq0.true (omega arith)

pub returns-else-high-eq0 : goal.returns-else-high-eq0
returns-else-high-eq0 c =
    within-past _ _ _
    (elim c.else-high-eq0.branch [
      | else-high-eq0-via-then-high-eq0+else-inside w ↦ λ z. omega arith
      | else-high-eq0-via-else-high-eq0 w ↦ λ z. absurd (w.if-high-eq0.false z)
    ])
    c.ranges.limit.fits
