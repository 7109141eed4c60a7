-- `format::is_width` meets its promise, by the tests. Assumes nothing.
use Rattle.std.proofs.Common.{arith}
use Rattle.std.proofs.lemmas.Grind.{common_steps}
use Rattle.format.specs.Meaning.{is_width}
use Rattle.format.proofs.is_width.Goals as goal

pub returns-in-8 : goal.returns-in-8
unfolding is_width
returns-in-8 c = grind (arith, common_steps)

pub returns-in_default : goal.returns-in_default
unfolding is_width
returns-in_default c = grind (arith, common_steps)
