-- `whole::frac` meets its promise: the step is the fraction. Assumes nothing.
use Rattle.std.proofs.Common.{rules}
use Rattle.units.specs.Meaning.{frac_part}
use Rattle.whole.proofs.frac.Goals as goal

pub returns : goal.returns
returns g c = c.stepped.ensures frac_part (λ x y e h. search rules)
