-- `digits_exp::moving::Pair::strip_back` meets its contract, by whether the second view has a digit left.
-- Assumes nothing.
use Rattle.digits_exp.proofs.Spans.{is-held}
use Rattle.digits_exp.proofs.Exps.{back_none, back_some}
use Rattle.digits_exp.proofs.moving.Pair.strip_back.Goals as goal

pub returns-then-left-eq0 : goal.returns-then-left-eq0
returns-then-left-eq0 c =
    back_none _ _ _ c.without_trailing_zeros-left.ensures c.if-left-eq0.true
    c.without_trailing_zeros.ensures c.default.ensures

pub returns : goal.returns
returns c =
    back_some _ _ _ c.without_trailing_zeros-left.ensures c.if-left-eq0.false (is-held c.args.self.a_held)
