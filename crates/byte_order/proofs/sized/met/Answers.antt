-- `byte_order::sized::met` meets its contract: the format first, then the number of bytes. Assumes nothing.
use Rattle.std.proofs.Common.{arith, refl}
use Rattle.std.proofs.lemmas.Result.{err_from_is_err_and}
use Rattle.format.specs.Meaning.{named}
use Rattle.exact.specs.Refusals.{refuses-first, refuses-second, opens-both}
use Rattle.byte_order.proofs.sized.met.Goals as goal

pub returns-in_err-format-clause-err : goal.returns-in_err-format-clause-err
returns-in_err-format-clause-err c =
    let p = err_from_is_err_and c.from_residual.result c.from_residual.ensures.1 in
    rw (p.1, p.2) (refuses-first _ c.in_err-format.ensures.err)

pub returns-then-not-right-clause-err : goal.returns-then-not-right-clause-err
unfolding named
returns-then-not-right-clause-err c = rw c.if-not-right.true (refuses-second 5 c.in_ok-format.ensures.ok.free (λ z. omega arith) refl)

pub returns-clause-ok : goal.returns-clause-ok
returns-clause-ok c = rw c.if-not-right.false (opens-both 0 c.in_ok-format.ensures.ok refl)
