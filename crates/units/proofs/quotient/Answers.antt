-- `units::quotient` meets its contract: by 64 places and more nothing is left. Assumes nothing.
use Rattle.std.proofs.Common.{◌∙◌}
use Rattle.laws.specs.Shifts.{right}
use Rattle.units.proofs.quotient.Goals as goal

pub returns : goal.returns
returns c = c.unbounded_shr.ensures ∙ right 64 c.args.size c.args.frac c.ranges.size.fits
