-- `byte_order::sized::at_most` meets its contract: the test is the meaning's. Assumes nothing.
use Rattle.byte_order.specs.Meaning.{buffer_fault}
use Rattle.byte_order.proofs.sized.at_most.Goals as goal

pub returns-clause-ok : goal.returns-clause-ok
unfolding buffer_fault
returns-clause-ok c = rw c.size.ensures at c.met.ensures.ok

pub returns-clause-err : goal.returns-clause-err
unfolding buffer_fault
returns-clause-err c = rw c.size.ensures at c.met.ensures.err
