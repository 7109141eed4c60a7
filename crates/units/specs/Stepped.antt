-- What is made of a number in a format that was opened, fitted: it is the same of the format that was asked for. Assumes nothing.
use Rattle.std.specs.Prelude.{◌≡◌, ℕ, ℤ}
use Rattle.std.proofs.Common.{ap, ap₂, ◌∙◌}
use Rattle.format.specs.declared.Manner.{Manner}
use Rattle.format.specs.Meaning.{Kind, Answered, unless, settle, answered, LetsThrough}
use Rattle.exact.specs.Settled.{fitted}

module _ {A : Type 0} (c : Kind A) (k : Manner) where
  pub opened : (op : ℕ → ℕ → ℤ) {n w f v g : ℕ} {z : ℤ} {r : Answered A} → LetsThrough n w f v g → z ≡ op v g → r ≡ answered c (settle k c.sign v z)
      → r ≡ answered c (unless n (settle k c.sign w (op w f)))
  opened op o e q = fitted c k (e ∙ ap₂ op o.width_is o.frac_is) o q

  -- of one operand
  pub stepped : (op : ℕ → ℕ → ℤ → ℤ) {n w f v g : ℕ} {a x z : ℤ} {r : Answered A} → LetsThrough n w f v g → x ≡ a → z ≡ op v g x
      → r ≡ answered c (settle k c.sign v z) → r ≡ answered c (unless n (settle k c.sign w (op w f a)))
  stepped op {v = v} {g = g} {a = a} o p e q = opened (λ w f. op w f a) o (e ∙ ap (op v g) p) q
