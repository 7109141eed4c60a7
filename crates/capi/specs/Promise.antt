-- What an export promises, over the promise P of the function that it calls: its struct and its lent buffers are
-- settled where P settles answer and buffers. Assumes nothing.
use Rattle.std.specs.Prelude.{◌≡◌, ℕ, ℤ}
use Rattle.std.proofs.Common.{sym, ap, ◌∙◌}
use Rattle.format.specs.Meaning.{Answered}
use Rattle.fitting.specs.Meaning.{FileAnswer}
use Rattle.capi.specs.declared.answer.CSigned.{CSigned}
use Rattle.capi.specs.declared.answer.CUnsigned.{CUnsigned}
use Rattle.capi.specs.declared.c_fitting.CFile.{CFile}
use Rattle.capi.specs.Meaning.{signed_of, unsigned_of, file_of}

-- the struct r is an answer of the library copied, and that answer meets P
pub record Copied {A X : Type 0} (copy : A → X) (P : A → Type 0) (r : X) : Type 0 where
  pub answer : A
  pub copied : r ≡ copy answer
  pub meets : P answer

abbrev pub Signed : (Answered ℤ → Type 0) → CSigned → Type 0
Signed P r = Copied signed_of P r

abbrev pub Unsigned : (Answered ℕ → Type 0) → CUnsigned → Type 0
Unsigned P r = Copied unsigned_of P r

abbrev pub File : (FileAnswer → Type 0) → CFile → Type 0
File P r = Copied file_of P r

module _ {A X : Type 0} {copy : A → X} where
  -- equal answers make equal structs
  pub same-copied : {P Q : A → Type 0} {r s : X} (p : Copied copy P r) (q : Copied copy Q s)
      → p.answer ≡ q.answer → r ≡ s
  same-copied p q e = p.copied ∙ ap copy e ∙ sym q.copied

  -- where P settles the answer, the struct is settled
  pub copied-unique : {P : A → Type 0} → ((a b : A) → P a → P b → a ≡ b)
      → {r s : X} → Copied copy P r → Copied copy P s → r ≡ s
  copied-unique settled p q = same-copied p q (settled p.answer q.answer p.meets q.meets)

  -- where P settles the answer and what the lent buffers hold at exit (x, y), the struct and the buffers are settled
  pub lent-unique : {B : Type 0} {P : A → B → Type 0} → ((a b : A) (x y : B) → P a x → P b y → (a ≡ b) × (x ≡ y))
      → {r s : X} {x y : B} → Copied copy (λ a. P a x) r → Copied copy (λ a. P a y) s → (r ≡ s) × (x ≡ y)
  lent-unique settled {x = x} {y = y} p q =
      let e = settled p.answer q.answer x y p.meets q.meets in
      (same-copied p q e.0, e.1)
