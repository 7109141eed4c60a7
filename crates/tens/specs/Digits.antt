-- Decimal digits, each below ten, and the number that they are: zeros in front, and its size. Assumes nothing.
use Rattle.std.specs.Prelude.{◌≡◌, refl, ℕ, zero, suc, ◌*◌, ◌^◌, ◌≤◌, ◌<◌, length, drop, replicate}
use mathlib.Core.List.{List, [], ◌∷◌, ◌++◌, Memᴰ}
use Rattle.std.proofs.Common.{pow-suc, mul-le-mul_right, arith}
use Rattle.grammar.specs.Meaning.{nat_from}
use Rattle.grammar.specs.Naturals.{nat_of, nat_of-cons}

-- every digit is below ten
abbrev pub Small : List ℕ → Type 0
Small [] = Unit {0}
Small (d ∷ ds) = (d < 10) × Small ds

pub small_all : (ds : List ℕ) → ((d : ℕ) → Memᴰ d ds → d < 10) → Small ds
small_all [] h = tt
small_all (d ∷ ds) h = (h d (Memᴰ.head refl), small_all ds (λ c m. h c (Memᴰ.tail m)))

pub small-drop : (n : ℕ) (ds : List ℕ) → Small ds → Small (drop n ds)
small-drop zero ds s = s
small-drop (suc n) [] s = tt
small-drop (suc n) (d ∷ ds) s = small-drop n ds s.1

pub small-zeros : (z : ℕ) (ds : List ℕ) → Small ds → Small (replicate z 0 ++ ds)
small-zeros zero ds s = s
small-zeros (suc z) ds s = (omega arith, small-zeros z ds s)

-- zeros in front, and how large the number is
pub nat-zeros : (z : ℕ) (ds : List ℕ) → nat_of 10 (replicate z 0 ++ ds) ≡ nat_of 10 ds
unfolding nat_from
nat-zeros zero ds = refl
nat-zeros (suc z) ds = nat-zeros z ds

pub nat-below : (ds : List ℕ) → Small ds → nat_of 10 ds < 10 ^ length ds
unfolding nat_from
nat-below [] s = omega arith
nat-below (d ∷ ds) s =
    let more : suc d * 10 ^ length ds ≤ 10 * 10 ^ length ds = mul-le-mul_right (10 ^ length ds) s.0 in
    rw pow-suc (omega (arith, nat_of-cons 10 d ds, nat-below ds s.1))

-- ---- what the code carries along: digits below ten with their number, or with zeros in front, and the fraction bits of a format
pub record IsDecimal (ds : List ℕ) (count frac : ℕ) : Type 0 where
  pub counted : count ≡ length ds
  pub below : (d : ℕ) → Memᴰ d ds → d < 10
  pub few : frac ≤ 64

pub record IsFraction (ds : List ℕ) (zeros frac : ℕ) : Type 0 where
  pub below : (d : ℕ) → Memᴰ d ds → d < 10
  pub short : zeros ≤ 19
  pub few : frac ≤ 64
