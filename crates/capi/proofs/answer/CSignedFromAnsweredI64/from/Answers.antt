-- An answer is copied, case by case. Assumes nothing.
use Rattle.std.proofs.Common.{w64, rules}
use Rattle.laws.specs.Signed.{ok-back}
use Rattle.format.specs.Meaning.{number_in, value_in, flag_in}
use Rattle.capi.specs.Meaning.{signed_of}
use Rattle.capi.proofs.answer.CSignedFromAnsweredI64.from.Goals as goal

pub returns-in-Ok : goal.returns-in-Ok
unfolding signed_of number_in value_in flag_in
returns-in-Ok c = rw (c.in-Ok.is, c.from.ensures, ok-back w64 c.in-Ok.answer.raw (search rules))

pub returns-in-Err : goal.returns-in-Err
unfolding signed_of number_in value_in flag_in
returns-in-Err c = rw (c.in-Err.is, c.number.ensures)
