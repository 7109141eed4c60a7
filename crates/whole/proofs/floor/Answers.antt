-- `whole::floor` meets its promise: the step is the floor. Assumes nothing.
use Rattle.std.proofs.Common.{ℕ, ℤ, ◌^◌, rules}
use Rattle.units.specs.Meaning.{floor_to}
use Rattle.whole.proofs.floor.Goals as goal

pub returns : goal.returns
returns g c = c.stepped.ensures (λ (w f : ℕ) (z : ℤ). floor_to z (2 ^ f)) (λ x y e h. search rules)
