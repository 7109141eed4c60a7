-- The shift is the floor, and past 63 bits nothing is left. Assumes nothing.
use Rattle.std.proofs.Common.{ap, ◌∙◌, pos}
use Rattle.laws.specs.Shifts.{right}
use Rattle.convert.proofs.source.U64Source.dropped.Goals as goal

pub returns : goal.returns
returns c = ap pos (c.unbounded_shr.ensures ∙ right 64 c.args.self c.args.bits c.ranges.self.fits)
