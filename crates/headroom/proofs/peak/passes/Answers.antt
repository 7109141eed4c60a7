-- `peak::passes` meets its contract, way by way. Assumes nothing.
use Rattle.std.proofs.Common.{refl, w64}
use Rattle.std.proofs.Math.Facts.{to_z-of_z}
use Rattle.format.specs.Meaning.{lowest, highest}
use Rattle.headroom.specs.Meaning.{passes}
use Rattle.headroom.proofs.peak.passes.Goals as goal

pub returns-in-High : goal.returns-in-High
unfolding passes highest
returns-in-High c = rw (c.in-High.is, c.from.ensures, to_z-of_z {w = w64} c.ranges.y) refl

pub returns-in-Low : goal.returns-in-Low
unfolding passes lowest
returns-in-Low c = rw (c.in-Low.is, c.from-in-Low.ensures, to_z-of_z {w = w64} c.ranges.y) refl
