-- `Digits::of` meets its contract: nothing is read yet. Assumes nothing.
use Rattle.std.proofs.Common.{refl}
use Rattle.fold.specs.Body.{digits_left}
use Rattle.fold.proofs.body.Digits.of.Goals as goal

pub returns : goal.returns
unfolding digits_left
returns c = refl
