-- `text::early::plain` meets its contract: format, radix, length, in this order. Assumes nothing.
use Rattle.std.proofs.Common.{rules}
use Rattle.std.proofs.lemmas.Result.{err_from_is_err_and}
use Rattle.text.specs.Read.{early-format, early-radix, early-length, early-opens}
use Rattle.text.proofs.early.plain.Goals as goal

pub returns-in_err-format-clause-err : goal.returns-in_err-format-clause-err
returns-in_err-format-clause-err c =
    let p = err_from_is_err_and c.from_residual.result c.from_residual.ensures.1 in
    rw (p.1, p.2) (early-format _ _ _ _ c.in_err-format.ensures.err)

pub returns-then-not-is_radix-clause-err : goal.returns-then-not-is_radix-clause-err
returns-then-not-is_radix-clause-err c =
    early-radix _ _ _ _ c.in_ok-format.ensures.ok.free c.is_radix.ensures (search rules)

pub returns-in_err-length-clause-err : goal.returns-in_err-length-clause-err
returns-in_err-length-clause-err c =
    let r = c.from_residual-in_err-length in
    let p = err_from_is_err_and r.result r.ensures.1 in
    rw (p.1, p.2) (early-length _ _ _ _ c.in_ok-format.ensures.ok.free c.is_radix.ensures (search rules) c.in_err-length.ensures.err)

pub returns-clause-ok : goal.returns-clause-ok
returns-clause-ok c =
    early-opens _ _ _ _ c.in_ok-format.ensures.ok c.is_radix.ensures (search rules) c.in_ok-length.ensures.ok
