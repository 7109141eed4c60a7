-- A refusal is copied, case by case. Assumes nothing.
use Rattle.std.proofs.Common.{ap, Err}
use Rattle.capi.specs.Copies.{copied-refusal, copied-line}
use Rattle.capi.proofs.c_fitting.refused.Goals as goal

pub returns-in-Whole : goal.returns-in-Whole
returns-in-Whole c = rw c.number.ensures (copied-refusal _ (ap Err c.in-Whole.is))

pub returns-in-Line : goal.returns-in-Line
returns-in-Line c = copied-line _ _ (ap Err c.in-Line.is)
