-- `wide::divide::words` meets its contract: the shift loses nothing, and the two digits are the quotient (`Normal`). Assumes nothing.
use Rattle.std.proofs.Common.{◌^◌, ◌<◌, arith}
use lib.Bits.{bit_and, and_mask, mask_lt}
use lib.Count.{count_leading_zeros}
use Rattle.wide.proofs.Normal.{Normal, normal, Shifted, First, b-top, high-below, first-lt, rest_below, second_lt, both}
use Rattle.wide.proofs.divide.words.Goals as goal
use Rattle.wide.proofs.divide.words.Goals.{After-digit-first, After-digit-second, After-shl-x, Start}

norm : (c : Start) → Normal c.args.d (count_leading_zeros 64 c.args.d)
norm c = normal c.args.d (omega arith) c.ranges.d.fits

shifted : (c : After-shl-x) → Shifted c.args.high c.args.low c.args.d
    (count_leading_zeros 64 c.args.d) c.shl_word-by.result c.shl-x.result
shifted c = record {
  below = c.requires;
  fits = c.ranges.low.fits;
  norm = norm c.before.before;
  by = c.shl_word-by.ensures;
  value = c.shl-x.ensures;
}

first : (c : After-digit-first) → First c.shl-x.result c.shl_word-by.result
    (bit_and c.shl-x.result.low 0xffff_ffff) c.digit-first.result
first c = record { fits = c.struct_known-1.given.1.0.fits; half = and_mask c.shl-x.result.low 32; is = c.digit-first.ensures }

-- each digit is below 2 ^ 32
first-digit : (one : After-digit-first) → one.digit-first.result.quotient < 2 ^ 32
first-digit one = first-lt (shifted one.before.before) (first one)

second-digit : (two : After-digit-second) → two.digit-second.result.quotient < 2 ^ 32
second-digit two =
    second_lt (shifted two.before.before.before.before) (first two.before.before) two.digit-second.ensures

pub shl_word-by-requires : goal.shl_word-by-requires
shl_word-by-requires c = ((norm c).short, (norm c).fits)

pub digit-first-requires : goal.digit-first-requires
digit-first-requires c = (b-top (shifted c.before), high-below (shifted c.before), omega arith)

pub digit-second-requires : goal.digit-second-requires
digit-second-requires c =
    (b-top (shifted c.before.before.before), rest_below (shifted c.before.before.before) (first c.before), mask_lt c.shl-x.result.low 32)

pub overflow_mul-result : goal.overflow_mul-result
overflow_mul-result c = omega (arith, first-digit c.before.before.before)

pub overflow_add-result : goal.overflow_add-result
overflow_add-result c = omega (arith, first-digit c.before.before.before.before, second-digit c.before.before)

pub overflow_cast-result : goal.overflow_cast-result
overflow_cast-result c = omega (arith, norm c.before.before.before.before.before.before.before.before)

pub overflow_shr-result : goal.overflow_shr-result
overflow_shr-result c = (norm c.before.before.before.before.before.before.before.before.before).short

pub returns : goal.returns
returns c =
    both (shifted c.before.before.before.before.before.before.before) (first c.before.before.before.before.before) c.digit-second.ensures
