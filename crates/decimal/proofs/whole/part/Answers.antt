-- `whole::part` meets its contract: a shift by a word's bits or more leaves nothing. Assumes nothing.
use Rattle.std.proofs.Common.{◌∙◌}
use Rattle.laws.specs.Shifts.{right}
use Rattle.decimal.proofs.whole.part.Goals as goal

pub returns : goal.returns
returns c = c.unbounded_shr.ensures ∙ right 64 c.args.magnitude c.args.frac c.ranges.magnitude.fits
