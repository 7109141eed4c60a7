-- The promises of the public functions, each an equation over the kind of raw, and that each settles its answer. An
-- unsigned operand is a number that is not negative. Assumes nothing.
use Rattle.std.specs.Prelude.{◌≡◌, ℕ}
use Rattle.format.specs.declared.Manner.{Manner}
use Rattle.format.specs.Meaning.{Kind, Answered, answered}
use Rattle.laws.specs.Unique.{unique}
use Rattle.shift.specs.Meaning.{shl_of, shr_of}

module _ {A : Type 0} (c : Kind A) where
  abbrev pub Shl : A → ℕ → ℕ → ℕ → Manner → Answered A → Type 0
  Shl a n w f k r = r ≡ answered c (shl_of k c.sign w f (c.number_of a) n)

  abbrev pub Shr : A → ℕ → ℕ → ℕ → Manner → Answered A → Type 0
  Shr a n w f k r = r ≡ answered c (shr_of k c.sign w f (c.number_of a) n)

-- two answers that meet a promise are equal
module _ {A : Type 0} (c : Kind A) (a : A) (n w f : ℕ) (k : Manner) {r s : Answered A} where
  pub shl-unique : Shl c a n w f k r → Shl c a n w f k s → r ≡ s
  shl-unique p q = unique p q

  pub shr-unique : Shr c a n w f k r → Shr c a n w f k s → r ≡ s
  shr-unique p q = unique p q
