-- `scan::literal::minus` meets its contract, by the tests. Assumes nothing.
use Rattle.std.proofs.Common.{rules}
use Rattle.scan.specs.Literal.{minus-yes, minus-empty, minus-other, minus-unsigned}
use Rattle.scan.proofs.literal.minus.Goals as goal

pub returns-in-45 : goal.returns-in-45
returns-in-45 c = search (rules, minus-yes)

pub returns-in_default : goal.returns-in_default
returns-in_default c = search (rules, minus-empty, minus-other)

pub returns-in_default-2 : goal.returns-in_default-2
returns-in_default-2 c = search (rules, minus-empty, minus-other)

pub returns-else-signed : goal.returns-else-signed
returns-else-signed c = search (rules, minus-unsigned)
