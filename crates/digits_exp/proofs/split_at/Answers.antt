-- `digits_exp::split_at` meets its promise: what is required is what the whole holds.
-- Assumes nothing.
use Rattle.digits_exp.proofs.Spans.{held-is}
use Rattle.digits_exp.proofs.split_at.Goals as goal

pub invariant_of-whole : goal.invariant_of-whole
invariant_of-whole c = record { one = held-is c.requires.one; two = held-is c.requires.two }
