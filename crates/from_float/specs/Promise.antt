-- The promises of the public functions, each an equation over the kind of raw, and that each settles its answer.
-- Assumes nothing.
use Rattle.std.specs.Prelude.{◌≡◌, ℕ}
use Rattle.format.specs.declared.Manner.{Manner}
use Rattle.format.specs.Meaning.{Kind, Answered, answered}
use Rattle.laws.specs.Unique.{unique}
use Rattle.float.specs.Meaning.{binary32, binary64}
use Rattle.from_float.specs.Meaning.{from_float_of}

-- a pattern x into the format of width w with f fraction bits, in the manner k
module _ {A : Type 0} (c : Kind A) where
  abbrev pub F32 : ℕ → ℕ → ℕ → Manner → Answered A → Type 0
  F32 x w f k r = r ≡ answered c (from_float_of binary32 k c.sign w f x)

  abbrev pub F64 : ℕ → ℕ → ℕ → Manner → Answered A → Type 0
  F64 x w f k r = r ≡ answered c (from_float_of binary64 k c.sign w f x)

-- two answers that meet a promise are equal
module _ {A : Type 0} (c : Kind A) (x w f : ℕ) (k : Manner) {r s : Answered A} where
  pub f32-unique : F32 c x w f k r → F32 c x w f k s → r ≡ s
  f32-unique p q = unique p q

  pub f64-unique : F64 c x w f k r → F64 c x w f k s → r ≡ s
  f64-unique p q = unique p q
