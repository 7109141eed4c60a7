-- `whole::frac_in` meets its contract: the widths of formats are at most a word's. Assumes nothing.
use Rattle.format.specs.Fault.{width-bounds}
use Rattle.whole.proofs.frac_in.Goals as goal

pub frac-requires : goal.frac-requires
frac-requires c = (c.args.format.within, (width-bounds _ c.args.format.one_of_four).1)
