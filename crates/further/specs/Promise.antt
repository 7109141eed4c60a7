-- The promises of the public functions, each an equation over the kind of raw, and that each settles its answer. An
-- unsigned operand is a number that is not negative. Assumes nothing.
use Rattle.std.specs.Prelude.{◌≡◌, ℕ}
use Rattle.format.specs.declared.Manner.{Manner}
use Rattle.format.specs.Meaning.{Kind, Answered, answered}
use Rattle.laws.specs.Unique.{unique}
use Rattle.further.specs.Meaning.{abs_of, signum_of, rem_euclid_of, div_euclid_of, mul_add_of, dist_of, mean_of}

module _ {A : Type 0} (c : Kind A) where
  abbrev pub Abs : A → ℕ → ℕ → Manner → Answered A → Type 0
  Abs a w f k r = r ≡ answered c (abs_of k c.sign w f (c.number_of a))

  abbrev pub Signum : A → ℕ → ℕ → Manner → Answered A → Type 0
  Signum a w f k r = r ≡ answered c (signum_of k c.sign w f (c.number_of a))

  abbrev pub RemEuclid : A → A → ℕ → ℕ → Manner → Answered A → Type 0
  RemEuclid a b w f k r = r ≡ answered c (rem_euclid_of k c.sign w f (c.number_of a) (c.number_of b))

  abbrev pub DivEuclid : A → A → ℕ → ℕ → Manner → Answered A → Type 0
  DivEuclid a b w f k r = r ≡ answered c (div_euclid_of k c.sign w f (c.number_of a) (c.number_of b))

  abbrev pub MulAdd : A → A → A → ℕ → ℕ → Manner → Answered A → Type 0
  MulAdd a b d w f k r = r ≡ answered c (mul_add_of k c.sign w f (c.number_of a) (c.number_of b) (c.number_of d))

  abbrev pub Dist : A → A → ℕ → ℕ → Manner → Answered A → Type 0
  Dist a b w f k r = r ≡ answered c (dist_of k c.sign w f (c.number_of a) (c.number_of b))

  abbrev pub Mean : A → A → ℕ → ℕ → Manner → Answered A → Type 0
  Mean a b w f k r = r ≡ answered c (mean_of k c.sign w f (c.number_of a) (c.number_of b))

-- two answers that meet a promise are equal
module _ {A : Type 0} (c : Kind A) (a b d : A) (w f : ℕ) (k : Manner) {r s : Answered A} where
  pub abs-unique : Abs c a w f k r → Abs c a w f k s → r ≡ s
  abs-unique p q = unique p q

  pub signum-unique : Signum c a w f k r → Signum c a w f k s → r ≡ s
  signum-unique p q = unique p q

  pub rem-euclid-unique : RemEuclid c a b w f k r → RemEuclid c a b w f k s → r ≡ s
  rem-euclid-unique p q = unique p q

  pub div-euclid-unique : DivEuclid c a b w f k r → DivEuclid c a b w f k s → r ≡ s
  div-euclid-unique p q = unique p q

  pub mul-add-unique : MulAdd c a b d w f k r → MulAdd c a b d w f k s → r ≡ s
  mul-add-unique p q = unique p q

  pub dist-unique : Dist c a b w f k r → Dist c a b w f k s → r ≡ s
  dist-unique p q = unique p q

  pub mean-unique : Mean c a b w f k r → Mean c a b w f k s → r ≡ s
  mean-unique p q = unique p q
