-- What is proved of the meaning: rounding is to the nearest, a tie is even, and nothing else is both. (`Kit` ties the meaning to the kit's own account of
-- binary32 and binary64.) Assumes nothing.
use Rattle.std.specs.Prelude.{◌≡◌, ℕ, ◌*◌, ◌^◌}
use Rattle.std.proofs.Math.Path.{ap}
use Rattle.std.proofs.Common.{◌∙◌, pow_pos}
use Rattle.laws.specs.Nearest.{Nearest, nearest, nearest-unique, nearest-exact, nearest_even}
use Rattle.float.specs.Meaning.{Binary, least, raw_of_steps}

-- ---- "nearest, ties to even": n steps of 2^-least are n x 2^F / 2^least steps of the format
module _ (b : Binary) (f n : ℕ) where
  pub raw-nearest : Nearest (n * 2 ^ f) (2 ^ least b) (raw_of_steps b f n)
  unfolding raw_of_steps
  raw-nearest = nearest (n * 2 ^ f) (2 ^ least b) (pow_pos (least b))

  pub raw-only : (q : ℕ) → Nearest (n * 2 ^ f) (2 ^ least b) q → q ≡ raw_of_steps b f n
  raw-only q h = nearest-unique (n * 2 ^ f) (2 ^ least b) q (raw_of_steps b f n) (pow_pos (least b)) h raw-nearest

  -- the raw r stands for the same number
  pub raw-exact : (r : ℕ) → n * 2 ^ f ≡ r * 2 ^ least b → raw_of_steps b f n ≡ r
  unfolding raw_of_steps
  raw-exact r e = ap (λ (m : ℕ). nearest_even m (2 ^ least b)) e ∙ nearest-exact r (2 ^ least b) (pow_pos (least b))
