-- The promise of the public function, an equation over the kind of raw on either side, and that it settles its answer.
-- An unsigned raw is a number that is not negative. Assumes nothing.
use Rattle.std.specs.Prelude.{◌≡◌, ℕ, ℤ}
use Rattle.format.specs.declared.Manner.{Manner}
use Rattle.format.specs.Meaning.{Kind, signed_kind, unsigned_kind, Answered, answered}
use Rattle.laws.specs.Unique.{unique}
use Rattle.convert.specs.Meaning.{convert_of}

module _ {A B : Type 0} (c : Kind A) (d : Kind B) where
  abbrev pub Convert : A → ℕ → ℕ → ℕ → ℕ → Manner → Answered B → Type 0
  Convert a fw ff w f k r = r ≡ answered d (convert_of k d.sign fw ff w f (c.number_of a))

  pub convert-unique : (a : A) (fw ff w f : ℕ) (k : Manner) (r s : Answered B) → Convert a fw ff w f k r
      → Convert a fw ff w f k s → r ≡ s
  convert-unique a fw ff w f k r s p q = unique p q

-- what is left of a raw whose bits are dropped is settled by its number, of either kind
module _ (z : ℤ) where
  pub dropped-signed-unique : (r s : ℤ) → signed_kind.number_of r ≡ z → signed_kind.number_of s ≡ z → r ≡ s
  dropped-signed-unique r s p q = unique p q

  pub dropped-unsigned-unique : (r s : ℕ) → unsigned_kind.number_of r ≡ z → unsigned_kind.number_of s ≡ z → r ≡ s
  dropped-unsigned-unique r s p q = cc
