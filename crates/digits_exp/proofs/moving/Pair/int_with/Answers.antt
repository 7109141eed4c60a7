-- `digits_exp::moving::Pair::int_with` meets its contract. The zeros behind stay where a digit is left.
-- Assumes nothing.
use Rattle.digits_exp.proofs.Exps.{int-stands}
use Rattle.digits_exp.proofs.moving.Pair.int_with.Goals as goal

pub returns : goal.returns
returns c = int-stands _ _ _ _ c.if_digits.ensures c.strip_front.ensures
