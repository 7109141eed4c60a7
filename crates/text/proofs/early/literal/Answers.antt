-- `text::early::literal` meets its contract: format, then length. Assumes nothing.
use Rattle.std.proofs.lemmas.Result.{err_from_is_err_and}
use Rattle.text.specs.Read.{literal-format, literal-length, literal-opens}
use Rattle.text.proofs.early.literal.Goals as goal

pub returns-in_err-format-clause-err : goal.returns-in_err-format-clause-err
returns-in_err-format-clause-err c =
    let p = err_from_is_err_and c.from_residual.result c.from_residual.ensures.1 in
    rw (p.1, p.2) (literal-format _ _ _ c.in_err-format.ensures.err)

pub returns-in_err-length-clause-err : goal.returns-in_err-length-clause-err
returns-in_err-length-clause-err c =
    let r = c.from_residual-in_err-length in
    let p = err_from_is_err_and r.result r.ensures.1 in
    rw (p.1, p.2) (literal-length _ _ _ c.in_ok-format.ensures.ok.free c.in_err-length.ensures.err)

pub returns-clause-ok : goal.returns-clause-ok
returns-clause-ok c = literal-opens _ _ _ c.in_ok-format.ensures.ok c.in_ok-length.ensures.ok
