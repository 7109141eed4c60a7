-- The promises of the public functions, each an equation over the kind of raw, and that each settles its answer. An
-- unsigned operand is a number that is not negative. Assumes nothing.
use Rattle.std.specs.Prelude.{◌≡◌, ℕ}
use Rattle.format.specs.declared.Manner.{Manner}
use Rattle.format.specs.Meaning.{Kind, Answered, answered}
use Rattle.laws.specs.Unique.{unique}
use Rattle.whole.specs.Meaning.{floor_of, ceil_of, round_of, even_of, int_of, frac_of}

module _ {A : Type 0} (c : Kind A) where
  abbrev pub Floor : A → ℕ → ℕ → Manner → Answered A → Type 0
  Floor a w f k r = r ≡ answered c (floor_of k c.sign w f (c.number_of a))

  abbrev pub Ceil : A → ℕ → ℕ → Manner → Answered A → Type 0
  Ceil a w f k r = r ≡ answered c (ceil_of k c.sign w f (c.number_of a))

  abbrev pub Round : A → ℕ → ℕ → Manner → Answered A → Type 0
  Round a w f k r = r ≡ answered c (round_of k c.sign w f (c.number_of a))

  abbrev pub Even : A → ℕ → ℕ → Manner → Answered A → Type 0
  Even a w f k r = r ≡ answered c (even_of k c.sign w f (c.number_of a))

  abbrev pub Int : A → ℕ → ℕ → Manner → Answered A → Type 0
  Int a w f k r = r ≡ answered c (int_of k c.sign w f (c.number_of a))

  abbrev pub Frac : A → ℕ → ℕ → Manner → Answered A → Type 0
  Frac a w f k r = r ≡ answered c (frac_of k c.sign w f (c.number_of a))

-- two answers that meet a promise are equal
module _ {A : Type 0} (c : Kind A) (a : A) (w f : ℕ) (k : Manner) {r s : Answered A} where
  pub floor-unique : Floor c a w f k r → Floor c a w f k s → r ≡ s
  floor-unique p q = unique p q

  pub ceil-unique : Ceil c a w f k r → Ceil c a w f k s → r ≡ s
  ceil-unique p q = unique p q

  pub round-unique : Round c a w f k r → Round c a w f k s → r ≡ s
  round-unique p q = unique p q

  pub even-unique : Even c a w f k r → Even c a w f k s → r ≡ s
  even-unique p q = unique p q

  pub int-unique : Int c a w f k r → Int c a w f k s → r ≡ s
  int-unique p q = unique p q

  pub frac-unique : Frac c a w f k r → Frac c a w f k s → r ≡ s
  frac-unique p q = unique p q
