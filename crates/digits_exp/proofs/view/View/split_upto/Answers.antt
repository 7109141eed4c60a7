-- `digits_exp::view::View::split_upto` meets its contract. The place of the digit cuts the span where the first part ends.
-- Assumes nothing.
use native.Mathlib.Omega.{arith}
use Rattle.digits_exp.specs.Meaning.{span_of}
use Rattle.digits_exp.proofs.Spans.{split-within, upto-stands}
use Rattle.digits_exp.proofs.view.View.split_upto.Goals as goal

pub overflow_add-from : goal.overflow_add-from
overflow_add-from c =
    let s = c.args.self in
    omega (arith, split-within s.text.now s.at.from s.at.to c.args.mid c.bytes.ensures c.place.ensures)

pub returns : goal.returns
unfolding span_of
returns c =
    upto-stands _ _ _ _ c.bytes.ensures c.place.ensures c.trim.ensures
