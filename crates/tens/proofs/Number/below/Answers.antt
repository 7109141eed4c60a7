-- `Number::below` meets its contract, with digits before the point, with zeros after it, and with so many that nothing is left (`Tens`).
-- Assumes nothing.
use Rattle.std.proofs.Common.{◌≡◌, subst, ◌+◌, ◌-◌, length, arith}
use mathlib.Core.List.{Memᴰ}
use Rattle.fold.specs.Body.{digits_left, drop-digits}
use Rattle.tens.specs.Digits.{small_all}
use Rattle.tens.specs.Tens.{below-some, below_none, below-far}
use Rattle.tens.proofs.Number.below.Goals as goal

pub invariant_of-fraction : goal.invariant_of-fraction
invariant_of-fraction c =
    let s = c.args.self.now in
    record {
      decimal = record {
        below = λ d m. drop-digits (s.count - c.args.places) s.decimal.below d (subst (Memᴰ d) c.number-whole.ensures.rest m);
        short = omega arith;
        few = s.decimal.few;
      };
    }

pub returns-then-places-all : goal.returns-then-places-all
returns-then-places-all c =
    let s = c.args.self.now in
    let ds = digits_left s.digits in
    let taken = c.number-whole.ensures in
    below-some ds (small_all ds s.decimal.below) s.frac s.decimal.few c.args.places s.count s.decimal.counted c.if-places-all.true taken.rest taken.value
    c.beside.ensures

pub returns-then-zeros-ge-NO_MORE : goal.returns-then-zeros-ge-NO_MORE
returns-then-zeros-ge-NO_MORE c =
    let s = c.args.self.now in
    let ds = digits_left s.digits in
    let z = c.args.places - s.count in
    let sum : z + length ds ≡ c.args.places = omega (arith, s.decimal.counted) in
    below-far ds (small_all ds s.decimal.below) s.frac s.decimal.few c.args.places z sum c.if-zeros-ge-NO_MORE.true c.from.ensures

pub returns : goal.returns
returns c =
    let s = c.args.self.now in
    let ds = digits_left s.digits in
    let z = c.args.places - s.count in
    let sum : z + length ds ≡ c.args.places = omega (arith, s.decimal.counted) in
    below_none ds (small_all ds s.decimal.below) s.frac s.decimal.few c.args.places z sum c.from-2.ensures c.beside-2.ensures
