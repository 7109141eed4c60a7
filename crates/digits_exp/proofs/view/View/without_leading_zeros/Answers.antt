-- `digits_exp::view::View::without_leading_zeros` meets its contract: as many digits are skipped as there are zeros in front.
-- Assumes nothing.
use Rattle.digits_exp.proofs.Spans.{is-held, leading-fits, leading-stands}
use Rattle.digits_exp.proofs.view.View.without_leading_zeros.Goals as goal

pub skip-requires : goal.skip-requires
skip-requires c =
    leading-fits _ _ (is-held c.args.self.held) c.bytes.ensures c.leading_zeros.ensures

pub returns : goal.returns
returns c =
    leading-stands _ _ (is-held c.args.self.held) c.bytes.ensures c.leading_zeros.ensures c.skip.ensures
