-- `sum::round` meets its contract: what the machine reads back of each sum is the sum, since P is at most 2 ^ 36 either way, and the sum shifted down
-- is the rounded number (`lowered_is`). Assumes nothing.
use native.Mathlib.Omega.{arith}
use mir.Syntax.{w64}
use mir.Facts.{to_z-of_z}
use Rattle.laws.specs.Signed.{word-pos}
use Rattle.filter.specs.Added.{odd, whole-odd, half-fits, raised-fits, lowered-fits}
use Rattle.filter.proofs.Added.{lowered_is}
use Rattle.filter.proofs.sum.round.Goals as goal

pub overflow_add-result : goal.overflow_add-result
overflow_add-result c = rw (to_z-of_z {w = w64} c.ranges.p) (half-fits c.args.p c.requires)

pub overflow_add-result-2 : goal.overflow_add-result-2
overflow_add-result-2 c =
    let p = c.args.p in
    rw (to_z-of_z {w = w64} c.ranges.p, to_z-of_z {w = w64} (half-fits p c.requires), whole-odd p c.requires, word-pos (odd p) (omega arith))
    (raised-fits p c.requires)

pub returns : goal.returns
returns c =
    let p = c.args.p in
    rw (to_z-of_z {w = w64} c.ranges.p, to_z-of_z {w = w64} (half-fits p c.requires), whole-odd p c.requires, word-pos (odd p) (omega arith))
    (rw (to_z-of_z {w = w64} (raised-fits p c.requires), to_z-of_z {w = w64} (lowered-fits p c.requires)) (lowered_is p))
