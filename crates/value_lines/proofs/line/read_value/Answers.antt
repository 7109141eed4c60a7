-- `value_lines::line::read_value` meets its contract: the literal reader's promise, and a strict raw of 16 bits is a number of 16 bits. Assumes nothing.
use Rattle.std.proofs.Common.{◌∙◌, ap, Err, arith}
use Rattle.std.proofs.lemmas.Result.{err_from_is_err_and}
use mir.Syntax.{w16, w64}
use mir.Facts.{to_z-of_z}
use Rattle.laws.specs.Signed.{ok-back}
use Rattle.value_lines.specs.Literal.{value-fits, value-done, value-refused}
use Rattle.value_lines.proofs.line.read_value.Goals as goal

pub returns-in_err-read : goal.returns-in_err-read
returns-in_err-read c =
    let p = err_from_is_err_and c.from_residual.result c.from_residual.ensures.1 in
    p.1 ∙ ap Err p.2 ∙ value-refused _ c.in_err-read.ensures

pub overflow_cast-result : goal.overflow_cast-result
overflow_cast-result c = rw (ok-back w64 c.in_ok-read.read.raw (omega arith)) (value-fits _ c.in_ok-read.ensures)

pub returns : goal.returns
returns c =
    let raw = c.in_ok-read.read.raw in
    value-done _ c.in_ok-read.ensures (rw (ok-back w64 raw (omega arith)) (to_z-of_z {w = w16} (value-fits _ c.in_ok-read.ensures)))
