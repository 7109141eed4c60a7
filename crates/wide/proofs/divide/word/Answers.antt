-- `wide::divide::word` meets its contract: a number below d is its own rest. Assumes nothing.
use Rattle.wide.proofs.LongDivision.{below}
use Rattle.wide.proofs.divide.word.Goals as goal

pub returns-then-x-d : goal.returns-then-x-d
returns-then-x-d c = below c.if-x-d.true
