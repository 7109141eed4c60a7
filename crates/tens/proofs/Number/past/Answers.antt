-- `Number::past` meets its contract: all digits, the zeros after them, and 2^frac, each folded (`past-folded`). Assumes nothing.
use Rattle.std.proofs.Common.{take}
use Rattle.grammar.specs.Naturals.{nat_of}
use Rattle.fold.specs.Fold.{folded_again}
use Rattle.fold.specs.Body.{digits_left}
use Rattle.tens.specs.Tens.{past-folded}
use Rattle.tens.proofs.Number.past.Goals as goal

pub lifted-requires : goal.lifted-requires
lifted-requires c =
    let s = c.args.self.now in
    folded_again (nat_of 10 (take s.count (digits_left s.digits))) c.number-all.ensures.value

pub returns : goal.returns
returns c =
    let s = c.args.self.now in
    past-folded (digits_left s.digits) s.count c.args.zeros s.frac s.decimal.counted c.number-all.ensures.value c.lifted.ensures (rw c.from.ensures at c.scaled.ensures)
