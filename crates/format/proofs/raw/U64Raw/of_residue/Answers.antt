-- An unsigned raw is its residue. Assumes nothing.
use Rattle.std.proofs.Math.Path.{refl}
use Rattle.format.specs.Place.{residue_raw}
use Rattle.format.proofs.raw.U64Raw.of_residue.Goals as goal

pub returns : goal.returns
unfolding residue_raw
returns c = refl
