-- `byte_order::sized::exactly` meets its contract: the test is the meaning's. Assumes nothing.
use Rattle.byte_order.specs.Meaning.{length_fault}
use Rattle.byte_order.proofs.sized.exactly.Goals as goal

pub returns-clause-ok : goal.returns-clause-ok
unfolding length_fault
returns-clause-ok c = rw c.size.ensures at c.met.ensures.ok

pub returns-clause-err : goal.returns-clause-err
unfolding length_fault
returns-clause-err c = rw c.size.ensures at c.met.ensures.err
