-- `digits_exp::view::View::split_from` meets its contract. The place of the digit cuts the span where the second part starts.
-- Assumes nothing.
use native.Mathlib.Omega.{arith}
use Rattle.digits_exp.specs.Meaning.{span_of}
use Rattle.digits_exp.proofs.Spans.{split-within, from-stands}
use Rattle.digits_exp.proofs.view.View.split_from.Goals as goal

pub overflow_add-start : goal.overflow_add-start
overflow_add-start c =
    let s = c.args.self in
    omega (arith, split-within s.text.now s.at.from s.at.to c.args.mid c.bytes.ensures c.place.ensures)

pub returns : goal.returns
unfolding span_of
returns c =
    from-stands _ _ _ _ c.bytes.ensures c.place.ensures c.trim.ensures
