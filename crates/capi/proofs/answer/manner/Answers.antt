-- `capi::answer::manner` meets its contract, by the tests. Assumes nothing.
use Rattle.std.proofs.Common.{arith}
use Rattle.std.proofs.lemmas.Grind.{common_steps}
use Rattle.capi.specs.Meaning.{manner_of}
use Rattle.capi.proofs.answer.manner.Goals as goal

pub returns-in-1 : goal.returns-in-1
unfolding manner_of
returns-in-1 c = grind (arith, common_steps)

pub returns-in-2 : goal.returns-in-2
unfolding manner_of
returns-in-2 c = grind (arith, common_steps)

pub returns-in-3 : goal.returns-in-3
unfolding manner_of
returns-in-3 c = grind (arith, common_steps)

pub returns-in_default : goal.returns-in_default
unfolding manner_of
returns-in_default c = grind (arith, common_steps)
