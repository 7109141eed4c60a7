-- What the public function promises, over the kind of raw, and that the promise leaves one answer only. An unsigned raw
-- is a number that is not negative; the answer is signed for both kinds. Assumes nothing.
use Rattle.std.specs.Prelude.{◌≡◌, ℕ, ℤ}
use Rattle.format.specs.Meaning.{Kind, signed_kind, Answered, answered}
use Rattle.laws.specs.Unique.{unique}
use Rattle.log10.specs.Meaning.{log10_outcome}

module _ {A : Type 0} (c : Kind A) where
  abbrev pub Log10 : A → ℕ → ℕ → Answered ℤ → Type 0
  Log10 raw w f r = r ≡ answered signed_kind (log10_outcome (c.number_of raw) w f)

  pub log10-unique : (raw : A) (w f : ℕ) (r s : Answered ℤ) → Log10 raw w f r → Log10 raw w f s → r ≡ s
  log10-unique raw w f r s p q = unique p q
