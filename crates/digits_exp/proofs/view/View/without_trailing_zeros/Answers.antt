-- `digits_exp::view::View::without_trailing_zeros` meets its contract: all digits are kept but the zeros behind.
-- Assumes nothing.
use Rattle.digits_exp.proofs.Spans.{is-held, trailing-fits, trailing-stands}
use Rattle.digits_exp.proofs.view.View.without_trailing_zeros.Goals as goal

pub overflow_sub-self : goal.overflow_sub-self
overflow_sub-self c =
    trailing-fits _ _ (is-held c.args.self.held) c.bytes.ensures c.trailing_zeros-zeros.ensures

pub returns : goal.returns
returns c =
    trailing-stands _ _ (is-held c.args.self.held) c.bytes.ensures
    c.trailing_zeros-zeros.ensures c.keep.ensures
