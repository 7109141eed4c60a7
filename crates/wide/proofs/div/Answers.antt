-- `wide::div` meets its contract: one machine division, or two steps of long division (`LongDivision`). Assumes nothing.
use Rattle.std.proofs.Common.{arith}
use Rattle.wide.proofs.LongDivision.{told-rest, one-step, two_steps}
use Rattle.wide.proofs.div.Goals as goal

pub returns-then-x-eq0 : goal.returns-then-x-eq0
returns-then-x-eq0 c = one-step c.args.x c.args.d c.if-x-eq0.true c.into.ensures

pub words-step-requires : goal.words-step-requires
words-step-requires c = omega (arith, told-rest c.args.x.high c.args.d c.word-top.ensures c.requires)

pub returns : goal.returns
returns c = two_steps c.args.x c.args.d c.requires c.word-top.ensures c.words-step.ensures
