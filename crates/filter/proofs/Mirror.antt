-- Samples the other way up: every sum and level is the other way up too. Assumes nothing.
use Rattle.std.specs.Prelude.{◌≡◌, refl, List, [], ◌∷◌, ℤ, ◌*ℤ◌}
use Rattle.std.proofs.Math.IntN.{neg_ℤ}
use Rattle.laws.specs.Ring.{*ℤ-negʳ, +ℤ-neg}
use Rattle.filter.specs.Meaning.{sum_of, level_of}
use Rattle.filter.proofs.Rounding.{rounded-neg}
use Rattle.filter.specs.Mirror.{mirror}

sum-mirror : (taps h : List ℤ) → sum_of taps (mirror h) ≡ neg_ℤ (sum_of taps h)
unfolding sum_of
sum-mirror [] h = refl
sum-mirror (t ∷ ts) [] = refl
sum-mirror (t ∷ ts) (x ∷ h) = rw (sum-mirror ts h, *ℤ-negʳ t x) (+ℤ-neg (t *ℤ x) (sum_of ts h))

-- the level, of any samples
pub level-mirror : (taps h : List ℤ) → level_of taps (mirror h) ≡ neg_ℤ (level_of taps h)
unfolding level_of
level-mirror taps h = rw (sum-mirror taps h) (rounded-neg (sum_of taps h))
