-- `digits_exp::splitting::Whole::from` meets its contract. The four counts leave the other digits of the whole.
-- Assumes nothing.
use Rattle.digits_exp.proofs.Spans.{is-held}
use Rattle.digits_exp.proofs.Cuts.{from-exp}
use Rattle.digits_exp.proofs.splitting.Whole.from.Goals as goal

pub returns : goal.returns
returns c =
    let w = c.args.self in
    from-exp w.digits c.args.mid c.cut-c.ensures _ (record { one = is-held w.one; two = is-held w.two })
    c.skip.ensures c.skip-2.ensures
