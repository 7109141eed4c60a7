-- What a step on a number makes of a raw: whatever the step means on numbers, the answer is that, behind the format's refusals. Assumes nothing.
use Rattle.std.specs.Prelude.{◌≡◌, ℕ, ℤ}
use Rattle.format.specs.declared.Manner.{Manner}
use Rattle.format.specs.declared.Exact.{Exact}
use Rattle.format.specs.declared.shape.Format.{Format}
use Rattle.format.specs.Meaning.{Kind, Answered, fault_of, unless, settle, answered}
use Rattle.exact.specs.declared.Number.{Number}
use Rattle.exact.specs.Meaning.{number_of, exact_of}

abbrev pub StepFitted : {A : Type 0} → Kind A → (Number → Format → Exact → Type 0) → A → ℕ → ℕ → Manner → Answered A → Type 0
StepFitted c step a w f k r =
    (op : ℕ → ℕ → ℤ → ℤ) → ((x : Number) (g : Format) (e : Exact) → step x g e → exact_of e ≡ op g.width g.frac (number_of x))
    → r ≡ answered c (unless (fault_of w f) (settle k c.sign w (op w f (c.number_of a))))
