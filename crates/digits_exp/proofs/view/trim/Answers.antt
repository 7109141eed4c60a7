-- `digits_exp::view::trim` meets its contract. The view lies in the text behind the `_` in front of the run.
-- Assumes nothing.
use mathlib.Core.Path.{refl}
use native.Mathlib.Omega.{arith}
use Rattle.digits_exp.proofs.Spans.{trim_start, trim_end, trim-stands}
use Rattle.digits_exp.proofs.view.trim.Goals as goal

pub overflow_add-start : goal.overflow_add-start
overflow_add-start c =
    omega (
      arith,
      trim_start c.args.text.now c.args.from c.args.to
          c.between-run.ensures c.unds_front.ensures refl,
    )

pub overflow_add-result : goal.overflow_add-result
overflow_add-result c =
    let a = c.args in
    omega (
      arith,
      trim_end a.text.now a.from a.to c.between-run.ensures c.unds_front.ensures
          c.new-view.ensures.bytes,
    )

pub returns : goal.returns
returns c =
    trim-stands _ _ _ c.between-run.ensures c.unds_front.ensures
    c.new-view.ensures.bytes c.len.ensures
