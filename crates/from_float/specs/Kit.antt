-- The outcome of a pattern in the words of the kit's library (`lib.Ieee`), whose reading of the standard agrees with the meaning (`Kit` of `float`).
-- Assumes nothing.
use Rattle.std.specs.Prelude.{◌≡◌, ℕ, ◌*◌, ◌^◌, Float}
use Rattle.std.proofs.Math.Path.{refl, ap}
use Rattle.std.proofs.Common.{arith, pow_pos}
use Rattle.std.specs.Float.{inf, fin, Format, nan as notNumber}
use Rattle.std.specs.Float.Ieee.{up, down, of_bits}
use Rattle.std.specs.Float.Ieee.Fits.{down_pos}
use Rattle.laws.specs.Nearest.{nearest_even, nearest-same}
use Rattle.format.specs.declared.Manner.{Manner}
use Rattle.format.specs.Meaning.{Sign, settle, with_sign, Outcome, refused}
use Rattle.float.specs.Meaning.{Binary, least, Value, pattern_value, raw_of_steps}
use Rattle.float.specs.Kit.{of_kit, Agrees, not-numbers, infinities, numbers, pattern-agrees}
use Rattle.from_float.specs.Meaning.{infinity, of_value}

-- m x 2^e x 2^F rounded to the nearest, ties to even, whatever way the number is written
unfoldable pub kit_outcome : Manner → Sign → ℕ → ℕ → Float → Outcome
kit_outcome k s w f notNumber = refused 30
kit_outcome k s w f (inf neg) = infinity k s w neg
kit_outcome k s w f (fin neg m e) = settle k s w (with_sign neg (nearest_even (m * up e * 2 ^ f) (down e)))

module _ (b : Binary) (k : Manner) (s : Sign) (w f : ℕ) where
  same_outcome : {y : Float} {v : Value} → Agrees b y v → of_value b k s w f v ≡ kit_outcome k s w f y
  unfolding of_value kit_outcome raw_of_steps
  same_outcome not-numbers = refl
  same_outcome infinities = refl
  same_outcome (numbers {s = neg} {m = m} {e = e} {n = n} h) =
      ap (λ (r : ℕ). settle k s w (with_sign neg r))
      (nearest-same (n * 2 ^ f) (2 ^ least b) (m * up e * 2 ^ f) (down e) (pow_pos (least b)) (down_pos e) (omega (arith, ap (λ (a : ℕ). a * 2 ^ f) h)))

pub outcome-agrees : (g : Format) (k : Manner) (s : Sign) (w f x : ℕ) → of_value (of_kit g) k s w f (pattern_value (of_kit g) x) ≡ kit_outcome k s w f (of_bits g x)
outcome-agrees g k s w f x = same_outcome (of_kit g) k s w f (pattern-agrees g x)
