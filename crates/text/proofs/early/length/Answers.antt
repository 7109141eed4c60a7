-- `text::early::length` meets its contract, by the test. Assumes nothing.
use Rattle.text.specs.Read.{length-short, length-long}
use Rattle.text.proofs.early.length.Goals as goal

pub returns-then-len-gt-TEXT_LIMIT-clause-err : goal.returns-then-len-gt-TEXT_LIMIT-clause-err
returns-then-len-gt-TEXT_LIMIT-clause-err c = length-long c.args.len c.if-len-gt-TEXT_LIMIT.true

pub returns-clause-ok : goal.returns-clause-ok
returns-clause-ok c = length-short c.args.len c.if-len-gt-TEXT_LIMIT.false
