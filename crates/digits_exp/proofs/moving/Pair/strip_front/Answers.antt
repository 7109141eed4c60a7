-- `digits_exp::moving::Pair::strip_front` meets its contract, by whether the first view has a digit left.
-- Assumes nothing.
use Rattle.digits_exp.proofs.Spans.{is-held}
use Rattle.digits_exp.proofs.Exps.{front-none, front-some}
use Rattle.digits_exp.proofs.moving.Pair.strip_front.Goals as goal

pub returns-then-left-eq0 : goal.returns-then-left-eq0
returns-then-left-eq0 c =
    front-none _ _ _ c.without_leading_zeros-left.ensures c.if-left-eq0.true
    c.without_leading_zeros.ensures c.default.ensures

pub returns : goal.returns
returns c =
    front-some _ _ _ c.without_leading_zeros-left.ensures c.if-left-eq0.false (is-held c.args.self.b_held)
