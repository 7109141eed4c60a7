-- `whole::ceil` meets its promise: the step is the ceiling. Assumes nothing.
use Rattle.std.proofs.Common.{ℕ, ℤ, ◌^◌, rules}
use Rattle.units.specs.Meaning.{ceil_to}
use Rattle.whole.proofs.ceil.Goals as goal

pub returns : goal.returns
returns g c = c.stepped.ensures (λ (w f : ℕ) (z : ℤ). ceil_to z (2 ^ f)) (λ x y e h. search rules)
