-- `order::walk` meets its contract. The invariant: the digits that are left compare with the rest as all do with the start. Assumes nothing.
use Rattle.std.proofs.Common.{rules, ◌∙◌, ap}
use Rattle.std.specs.Ordering.{nat_cmp}
use Rattle.tens.specs.Walk.{walk-stop, walk-next, walk-end}
use Rattle.tens.proofs.order.walk.Goals as goal

pub returns-then-digit-rest : goal.returns-then-digit-rest
returns-then-digit-rest c =
    let l = c.loop-digit in
    c.cmp.ensures ∙ walk-stop l.rest l.invariant.1 l.invariant.0 _ _ c.in-Some.ensures.steps c.if-digit-rest.true

pub loop-digit-preserved : goal.loop-digit-preserved
loop-digit-preserved c =
    let l = c.loop-digit in (
      record { high = search rules; low = search rules },
      walk-next l.rest l.invariant.1 l.invariant.0 _ _ c.in-Some.ensures.steps c.if-digit-rest.false c.mul-rest.ensures,
    )

pub returns : goal.returns
returns c =
    walk-end c.loop-digit.rest c.loop-digit.invariant.1 c.in-None.ensures.steps.0 (c.cmp-2.ensures ∙ ap (nat_cmp 0) c.from.ensures)
