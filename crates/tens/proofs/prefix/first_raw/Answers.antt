-- `prefix::first_raw` meets its contract: shifted up nothing is lost, shifted down the two divisions are one (`Prefix`). Assumes nothing.
use mathlib.Core.Path.{refl}
use native.Mathlib.Omega.{arith}
use Rattle.wide.specs.Meaning.{value_of}
use Rattle.tens.specs.Prefix.{first-up-words, first-down-words}
use Rattle.tens.proofs.prefix.first_raw.Goals as goal

pub returns-then-frac-lt26 : goal.returns-then-frac-lt26
returns-then-frac-lt26 c =
    let a = c.args in
    let d = c.div-less in
    first-down-words a.frac (value_of a.val) (omega arith) (omega arith) _ _ _ d.result.quotient.low d.ensures.quotient refl (omega arith)
    c.shr.ensures

pub returns : goal.returns
returns c =
    let a = c.args in
    let d = c.div-more in
    first-up-words a.frac (value_of a.val) (omega arith) (omega arith) _ _ _ d.result.quotient.low d.ensures.quotient refl (omega arith)
    c.shl.ensures
