-- The promises of the public functions, each an equation over the kind of raw, and that each settles its answer. An
-- unsigned operand is a number that is not negative. Assumes nothing.
use Rattle.std.specs.Prelude.{◌≡◌, Result, Ok, Err, ℕ, ℤ}
use Rattle.std.specs.Result.{IfOk, IfErr}
use Rattle.format.specs.declared.Manner.{Manner}
use Rattle.format.specs.Meaning.{Kind, Answered, answered, Refuses}
use Rattle.format.specs.declared.refusal.Refusal.{Refusal}
use Rattle.format.specs.Checked.{new-unique}
use Rattle.laws.specs.Unique.{unique}
use Rattle.arith.specs.Meaning.{division_fault, Divides, add_of, sub_of, neg_of, mul_of, div_of, rem_of}

module _ {A : Type 0} (c : Kind A) where
  abbrev pub Add : A → A → ℕ → ℕ → Manner → Answered A → Type 0
  Add a b w f k r = r ≡ answered c (add_of k c.sign w f (c.number_of a) (c.number_of b))

  abbrev pub Sub : A → A → ℕ → ℕ → Manner → Answered A → Type 0
  Sub a b w f k r = r ≡ answered c (sub_of k c.sign w f (c.number_of a) (c.number_of b))

  abbrev pub Mul : A → A → ℕ → ℕ → Manner → Answered A → Type 0
  Mul a b w f k r = r ≡ answered c (mul_of k c.sign w f (c.number_of a) (c.number_of b))

  abbrev pub Div : A → A → ℕ → ℕ → Manner → Answered A → Type 0
  Div a b w f k r = r ≡ answered c (div_of k c.sign w f (c.number_of a) (c.number_of b))

  abbrev pub Rem : A → A → ℕ → ℕ → Manner → Answered A → Type 0
  Rem a b w f k r = r ≡ answered c (rem_of k c.sign w f (c.number_of a) (c.number_of b))

  abbrev pub Neg : A → ℕ → ℕ → Manner → Answered A → Type 0
  Neg a w f k r = r ≡ answered c (neg_of k c.sign w f (c.number_of a))

-- two answers that meet a promise are equal
module _ {A : Type 0} (c : Kind A) (a b : A) (w f : ℕ) (k : Manner) {r s : Answered A} where
  pub add-unique : Add c a b w f k r → Add c a b w f k s → r ≡ s
  add-unique p q = unique p q

  pub sub-unique : Sub c a b w f k r → Sub c a b w f k s → r ≡ s
  sub-unique p q = unique p q

  pub mul-unique : Mul c a b w f k r → Mul c a b w f k s → r ≡ s
  mul-unique p q = unique p q

  pub div-unique : Div c a b w f k r → Div c a b w f k s → r ≡ s
  div-unique p q = unique p q

  pub rem-unique : Rem c a b w f k r → Rem c a b w f k s → r ≡ s
  rem-unique p q = unique p q

  pub neg-unique : Neg c a w f k r → Neg c a w f k s → r ≡ s
  neg-unique p q = unique p q

-- what `divided` says, of the width and the fraction bits that it lets through
abbrev pub Dividing : ℕ → ℕ → ℤ → Result (ℕ × ℕ) Refusal → Type 0
Dividing w f b r = IfOk r (λ x. Divides w f b x.0 x.1) × IfErr r (Refuses (division_fault w f b))

pub divided-unique : (w f : ℕ) (b : ℤ) (r s : Result (ℕ × ℕ) Refusal) → Dividing w f b r → Dividing w f b s → r ≡ s
divided-unique w f b (Ok x) (Ok y) p q =
    new-unique (division_fault w f b) w f (Ok x) (Ok y) (p.0.opens, p.1) (q.0.opens, q.1)
divided-unique w f b (Ok x) (Err e) p q = absurd (q.1.fault p.0.opens.free)
divided-unique w f b (Err e) (Ok y) p q = absurd (p.1.fault q.0.opens.free)
divided-unique w f b (Err d) (Err e) p q = new-unique (division_fault w f b) w f (Err d) (Err e) (tt, p.1) (tt, q.1)
