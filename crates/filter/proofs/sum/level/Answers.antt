-- `sum::level` meets its contract: the two callees' equations, one in the other. The sum is read back from its bits, and is the same number,
-- since a call's result fits (`type_inv`). Assumes nothing.
use mathlib.Core.Path.{◌∙◌}
use mir.Syntax.{w64}
use Rattle.laws.specs.Signed.{ok-back}
use Rattle.filter.specs.Meaning.{level_of}
use Rattle.filter.proofs.sum.level.Goals as goal

pub returns : goal.returns
unfolding level_of
returns c =
    let sum = c.dot in
    ok-back w64 c.round.result c.round.type_inv ∙ (rw (ok-back w64 sum.result sum.type_inv, sum.ensures.value) at c.round.ensures)
