-- A file's answer is copied: its values, or its refusal. Assumes nothing.
use Rattle.capi.specs.Copies.{copied-done}
use Rattle.capi.proofs.c_fitting.CFileFromFileAnswer.from.Goals as goal

pub returns-in-Ok : goal.returns-in-Ok
returns-in-Ok c = copied-done _ c.in-Ok.is

pub returns-in-Err : goal.returns-in-Err
returns-in-Err c = rw c.in-Err.is c.refused.ensures
