-- The promises of the public functions, each an equation over the kind of raw, and that each settles its answer: a
-- pattern, which is never negative. Assumes nothing.
use Rattle.std.specs.Prelude.{◌≡◌, ℕ}
use Rattle.format.specs.Meaning.{Kind, Answered, answered, unsigned_kind}
use Rattle.laws.specs.Unique.{unique}
use Rattle.float.specs.Meaning.{binary32, binary64}
use Rattle.to_float.specs.Meaning.{to_float_of}

-- the pattern of a raw a of the format of width w with f fraction bits
module _ {A : Type 0} (c : Kind A) where
  abbrev pub ToF32 : A → ℕ → ℕ → Answered ℕ → Type 0
  ToF32 a w f r = r ≡ answered unsigned_kind (to_float_of binary32 w f (c.number_of a))

  abbrev pub ToF64 : A → ℕ → ℕ → Answered ℕ → Type 0
  ToF64 a w f r = r ≡ answered unsigned_kind (to_float_of binary64 w f (c.number_of a))

-- two answers that meet a promise are equal
module _ {A : Type 0} (c : Kind A) (a : A) (w f : ℕ) {r s : Answered ℕ} where
  pub to-f32-unique : ToF32 c a w f r → ToF32 c a w f s → r ≡ s
  to-f32-unique p q = unique p q

  pub to-f64-unique : ToF64 c a w f r → ToF64 c a w f s → r ≡ s
  to-f64-unique p q = unique p q
