-- `fitting::check::check` meets its contract: one law for each way out. Assumes nothing.
use Rattle.std.proofs.Common.{◌∙◌, ap, Err}
use Rattle.std.proofs.lemmas.Result.{err_from_is_err_and}
use Rattle.fitting.specs.Room.{checked-long, checked-many, checked-room, checked-fine}
use Rattle.fitting.proofs.check.check.Goals as goal

pub returns-then-file-gt-FILE_LIMIT : goal.returns-then-file-gt-FILE_LIMIT
returns-then-file-gt-FILE_LIMIT c = checked-long _ _ _ _ _ c.if-file-gt-FILE_LIMIT.true

pub returns-then-values-gt-TAPS : goal.returns-then-values-gt-TAPS
returns-then-values-gt-TAPS c = checked-many _ _ _ _ _ c.if-file-gt-FILE_LIMIT.false c.count-values.ensures c.if-values-gt-TAPS.true

pub returns-in_err-room : goal.returns-in_err-room
returns-in_err-room c =
    let p = err_from_is_err_and c.from_residual.result c.from_residual.ensures.1 in
    p.1 ∙ ap Err p.2
    ∙ checked-room _ _ _ _ _ c.if-file-gt-FILE_LIMIT.false c.count-values.ensures c.if-values-gt-TAPS.false c.in_err-room.ensures

pub returns : goal.returns
returns c = checked-fine _ _ _ _ _ c.if-file-gt-FILE_LIMIT.false c.count-values.ensures c.if-values-gt-TAPS.false c.in_ok-room.ensures
