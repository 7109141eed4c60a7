-- `digits::without_trailing_zeros` meets its promise: there are no more zeros behind than digits.
-- Assumes nothing.
use native.Mathlib.Omega.{arith}
use Rattle.digits.specs.Meaning.{digits_of}
use Rattle.digits.specs.Theorems.{trailing-within}
use Rattle.digits.proofs.without_trailing_zeros.Goals as goal

pub overflow_sub-len : goal.overflow_sub-len
overflow_sub-len c =
    omega (arith, trailing-within (digits_of c.args.view.now))
