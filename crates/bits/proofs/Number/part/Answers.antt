-- `Number::part` meets its contract: the number is below one half, or the cut is in one of its digits. Assumes nothing.
use Rattle.fold.specs.Body.{digits_left}
use Rattle.bits.specs.Cut.{cut-none}
use Rattle.bits.proofs.Number.part.Goals as goal

pub returns-then-self-low : goal.returns-then-self-low
returns-then-self-low c =
    let s = c.args.self.now in
    cut-none (digits_left s.digits) s.count c.args.s s.width s.whole c.requires c.if-self-low.true c.from.ensures
