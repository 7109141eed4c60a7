-- The rounding as the code has it is the rounded number, since that is the only one within half a step and even at a tie. Assumes nothing.
use Rattle.std.specs.Prelude.{◌≡◌, ℤ}
use Rattle.filter.specs.Meaning.{rounded}
use Rattle.filter.specs.Rounding.{rounded-is, near-unique}
use Rattle.filter.specs.Added.{lowered, lowered-near}

pub lowered_is : (p : ℤ) → lowered p ≡ rounded p
lowered_is p = near-unique (lowered-near p) (rounded-is p)
