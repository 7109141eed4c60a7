-- `digits_exp::view::View::first_digit` meets its contract: the view starts with a digit.
-- Assumes nothing.
use Rattle.digits_exp.proofs.Spans.{is-held}
use Rattle.digits_exp.proofs.Firsts.{view-some}
use Rattle.digits_exp.proofs.view.View.first_digit.Goals as goal

pub bounds-bytes-0 : goal.bounds-bytes-0
bounds-bytes-0 c =
    (view-some _ _ (is-held c.args.self.held) c.requires c.bytes.ensures).0

pub returns : goal.returns
returns c =
    (view-some _ _ (is-held c.args.self.held) c.requires c.bytes.ensures).1
