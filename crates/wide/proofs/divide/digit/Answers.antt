-- `wide::divide::digit` meets its contract: the guess is the digit, or one or two above it (`Guess`). Assumes nothing.
use Rattle.std.proofs.Common.{◌/◌, ◌^◌, mod-lt, arith}
use lib.Bits.{bit_and, and_mask}
use Rattle.wide.proofs.Guess.{Digit, back-lt, right, guess-pos, one_less, guess-more, rest_le, two-less}
use Rattle.wide.proofs.divide.digit.Goals as goal
use Rattle.wide.proofs.divide.digit.Goals.{Start}

given : (c : Start) → Digit c.args.high c.args.low c.args.d (bit_and c.args.d 0xffff_ffff)
given c = record { top = c.requires.0; below = c.requires.1; small = c.requires.2; half = and_mask c.args.d 32 }

pub overflow_mul-there : goal.overflow_mul-there
overflow_mul-there c = omega (arith, mod-lt c.args.high {m = c.args.d / 2 ^ 32} (omega arith))

pub overflow_add-there : goal.overflow_add-there
overflow_add-there c = omega (arith, mod-lt c.args.high {m = c.args.d / 2 ^ 32} (omega arith))

pub overflow_mul-back : goal.overflow_mul-back
overflow_mul-back c = record { fits = back-lt (given c) }

pub returns-then-back-there : goal.returns-then-back-there
returns-then-back-there c = right (given c.before) c.if-back-there.true

pub overflow_sub-result-then-over-d : goal.overflow_sub-result-then-over-d
overflow_sub-result-then-over-d c = guess-pos (given c.before.before) c.if-back-there.false

pub returns-then-over-d : goal.returns-then-over-d
returns-then-over-d c = one_less (given c.before.before) c.if-back-there.false c.if-over-d.true

pub overflow_sub-result-2 : goal.overflow_sub-result-2
overflow_sub-result-2 c = guess-more (given c.before.before) c.if-back-there.false c.if-over-d.false

pub overflow_sub-result-4 : goal.overflow_sub-result-4
overflow_sub-result-4 c = rest_le (given c.before.before) c.if-back-there.false c.if-over-d.false

pub returns : goal.returns
returns c = two-less (given c.before.before) c.if-back-there.false c.if-over-d.false
