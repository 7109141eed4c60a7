-- `whole::int_in` meets its contract: the widths of formats are at most a word's. Assumes nothing.
use Rattle.format.specs.Fault.{width-bounds}
use Rattle.whole.proofs.int_in.Goals as goal

pub int-requires : goal.int-requires
int-requires c = (c.args.format.within, (width-bounds _ c.args.format.one_of_four).1)
