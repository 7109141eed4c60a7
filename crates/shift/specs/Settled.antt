-- A shift: wrapped in the format that its refusals let through, with the flag of its count. Assumes nothing.
use Rattle.std.specs.Prelude.{◌≡◌, ℕ, ℤ}
use Rattle.std.proofs.Common.{ap, ◌∙◌}
use Rattle.format.specs.declared.Manner.{Manner}
use Rattle.format.specs.Meaning.{Kind, Answered, Outcome, unless, wrap, done, answered, LetsThrough}
use Rattle.format.specs.Answer.{pass-answered}
use Rattle.shift.specs.Meaning.{count_flag}
use Rattle.shift.specs.Refusals.{shift_fault}

-- the number x that the code shifted, in the format that the refusals let through, is the meaning's y at the width
module _ {A : Type 0} (c : Kind A) (k : Manner) (n : ℕ) (y : ℕ → ℤ) where
  abbrev outcome : ℕ → Outcome
  outcome w = done (wrap c.sign w (y w)) (count_flag k w n)

  pub shifted : {x : ℤ} {w f v g : ℕ} {r : Answered A} → LetsThrough (shift_fault k w f n) w f v g → x ≡ y v
      → r ≡ answered c (done (wrap c.sign v x) (count_flag k v n)) → r ≡ answered c (unless (shift_fault k w f n) (outcome w))
  shifted {w} {f} {v} o e p =
      pass-answered c (shift_fault k w f n) (outcome w) o.free
      (p ∙ ap (λ (z : ℤ). answered c (done (wrap c.sign v z) (count_flag k v n))) e ∙ ap (λ (v : ℕ). answered c (outcome v)) o.width_is)
