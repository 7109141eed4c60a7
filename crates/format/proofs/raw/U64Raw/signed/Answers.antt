-- The sign of the kind. Assumes nothing.
use Rattle.std.proofs.Math.Path.{refl}
use Rattle.format.specs.Meaning.{sign_by}
use Rattle.format.proofs.raw.U64Raw.signed.Goals as goal

pub returns : goal.returns
unfolding sign_by
returns c = refl
