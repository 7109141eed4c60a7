-- `exact::of` meets its contract: the sign and the magnitude make the number. Assumes nothing.
use Rattle.format.specs.Place.{sign-back}
use Rattle.exact.proofs.of.Goals as goal

pub returns : goal.returns
returns g c = rw (c.is_below.ensures, c.magnitude.ensures) (sign-back (g.R.Raw.kind.number_of c.args.x))
