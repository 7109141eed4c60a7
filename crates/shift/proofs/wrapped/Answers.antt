-- `shift::wrapped` meets its contract: the raw is the number's wrap, the flag that of the count. Assumes nothing.
use Rattle.std.proofs.Common.{sym, ap}
use Rattle.format.specs.Meaning.{done, wrap, exact}
use Rattle.format.specs.Answer.{done-answered}
use Rattle.shift.proofs.wrapped.Goals as goal

pub returns : goal.returns
returns g c =
    let k = g.R.Raw.kind in
    let x = c.args.x in
    done-answered k (ap (done (wrap k.sign c.args.format.width (exact x.neg x.high x.low))) (sym c.flagged.ensures)) c.wrapped.ensures
