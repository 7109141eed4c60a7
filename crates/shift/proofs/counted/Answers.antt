-- `shift::counted` meets its contract: the format first, then the count. Assumes nothing.
use Rattle.std.proofs.Common.{arith, sym, ap}
use Rattle.std.proofs.lemmas.Result.{err_from_is_err_and}
use Rattle.format.specs.Meaning.{named}
use Rattle.exact.specs.Refusals.{refuses-first, refuses-second, opens-both}
use Rattle.shift.specs.Refusals.{count-in, count_past, past-refused, past-free}
use Rattle.shift.proofs.counted.Goals as goal

pub returns-in_err-format-clause-err : goal.returns-in_err-format-clause-err
returns-in_err-format-clause-err c =
    let p = err_from_is_err_and c.from_residual.result c.from_residual.ensures.1 in
    rw (p.1, p.2) (refuses-first _ c.in_err-format.ensures.err)

pub returns-then-count-width-clause-ok : goal.returns-then-count-width-clause-ok
returns-then-count-width-clause-ok c =
    opens-both _ c.in_ok-format.ensures.ok (sym (count-in c.args.manner _ _ c.if-count-width.true))

pub returns-in-Strict-clause-err : goal.returns-in-Strict-clause-err
unfolding named
returns-in-Strict-clause-err c =
    let e = count_past _ _ _ c.if-count-width.false (past-refused c.in-Strict.is) in
    refuses-second _ c.in_ok-format.ensures.ok.free (λ z. omega (arith, e, z)) (ap named e)

pub returns-in-Wrapping-clause-ok : goal.returns-in-Wrapping-clause-ok
returns-in-Wrapping-clause-ok c =
    opens-both _ c.in_ok-format.ensures.ok (sym (count_past _ _ _ c.if-count-width.false (past-free c.in-Wrapping.is)))
