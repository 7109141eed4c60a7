-- `place::residue` meets its contract: the mask takes the remainder, below 0 of what makes the word up to 2^64. Assumes nothing.
use Rattle.format.specs.Fault.{width-bounds}
use Rattle.format.specs.Place.{residue-low, residue-turned}
use Rattle.format.proofs.place.residue.Goals as goal

pub returns-then-neg : goal.returns-then-neg
returns-then-neg c =
    let f = c.args.format in
    residue-turned _ _ _ c.top-all.ensures _ c.if-neg.true c.wrapping_neg.ensures (width-bounds f.width f.one_of_four).1

pub returns-else-neg : goal.returns-else-neg
returns-else-neg c = residue-low _ _ _ c.top-all.ensures c.if-neg.false
