-- `digits_exp::moving::Pair::frac_with` meets its contract. The zeros in front stay where a digit is left.
-- Assumes nothing.
use Rattle.digits_exp.proofs.Exps.{frac-stands}
use Rattle.digits_exp.proofs.moving.Pair.frac_with.Goals as goal

pub returns : goal.returns
returns c = frac-stands _ _ _ _ c.if_digits.ensures c.strip_back.ensures
