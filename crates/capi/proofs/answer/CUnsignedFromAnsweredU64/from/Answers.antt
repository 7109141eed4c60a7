-- An answer is copied, case by case. Assumes nothing.
use Rattle.format.specs.Meaning.{number_in, value_in, flag_in}
use Rattle.capi.specs.Meaning.{unsigned_of}
use Rattle.capi.proofs.answer.CUnsignedFromAnsweredU64.from.Goals as goal

pub returns-in-Ok : goal.returns-in-Ok
unfolding unsigned_of number_in value_in flag_in
returns-in-Ok c = rw (c.in-Ok.is, c.from.ensures)

pub returns-in-Err : goal.returns-in-Err
unfolding unsigned_of number_in value_in flag_in
returns-in-Err c = rw (c.in-Err.is, c.number.ensures)
