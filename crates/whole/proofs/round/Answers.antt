-- `whole::round` meets its promise: the step is the nearest, ties away from zero. Assumes nothing.
use Rattle.std.proofs.Common.{ℕ, ℤ, ◌^◌, rules}
use Rattle.units.specs.Meaning.{round_to}
use Rattle.whole.proofs.round.Goals as goal

pub returns : goal.returns
returns g c = c.stepped.ensures (λ (w f : ℕ) (z : ℤ). round_to z (2 ^ f)) (λ x y e h. search rules)
