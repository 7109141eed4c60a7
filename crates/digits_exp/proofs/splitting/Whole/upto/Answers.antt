-- `digits_exp::splitting::Whole::upto` meets its contract. The four counts take the first digits of the whole.
-- Assumes nothing.
use Rattle.digits_exp.proofs.Spans.{is-held}
use Rattle.digits_exp.proofs.Cuts.{upto-exp}
use Rattle.digits_exp.proofs.splitting.Whole.upto.Goals as goal

pub returns : goal.returns
returns c =
    let w = c.args.self in
    upto-exp w.digits c.args.mid c.cut-c.ensures _ (record { one = is-held w.one; two = is-held w.two })
    c.keep.ensures c.keep-2.ensures
