-- `digits_exp::new_int_frac` meets its promise, by the sign of the exponent.
-- Assumes nothing.
use Rattle.digits_exp.proofs.Spans.{held-is}
use Rattle.digits_exp.proofs.Moves.{goes_left, goes-right}
use Rattle.digits_exp.proofs.new_int_frac.Goals as goal

pub invariant_of-both : goal.invariant_of-both
invariant_of-both c = record { a_held = held-is c.trim-a.ensures.is; b_held = held-is c.trim-b.ensures.is }

pub invariant_of-both-else-exp-lt0 : goal.invariant_of-both-else-exp-lt0
invariant_of-both-else-exp-lt0 c = record { a_held = held-is c.trim-a.ensures.is; b_held = held-is c.trim-b.ensures.is }

pub returns-then-exp-lt0 : goal.returns-then-exp-lt0
returns-then-exp-lt0 c =
    goes_left _ _ _ _ c.ranges.exp c.trim-a.ensures
    c.trim-b.ensures c.unsigned_abs-n.ensures.value c.if-exp-lt0.true c.move_left.ensures

pub returns-else-exp-lt0 : goal.returns-else-exp-lt0
returns-else-exp-lt0 c =
    goes-right _ _ _ _ c.ranges.exp c.trim-a.ensures
    c.trim-b.ensures c.unsigned_abs-n.ensures.value c.if-exp-lt0.false c.move_right.ensures
