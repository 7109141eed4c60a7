-- `whole::round_ties_even` meets its promise: the step is the nearest, ties to even. Assumes nothing.
use Rattle.std.proofs.Common.{ℕ, ℤ, ◌^◌, rules}
use Rattle.units.specs.Meaning.{even_to}
use Rattle.whole.proofs.round_ties_even.Goals as goal

pub returns : goal.returns
returns g c = c.stepped.ensures (λ (w f : ℕ) (z : ℤ). even_to z (2 ^ f)) (λ x y e h. search rules)
