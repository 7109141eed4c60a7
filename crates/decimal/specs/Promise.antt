-- What the public function promises, by name: its answer and what it leaves in the buffer, over the kind of raw. The
-- promise leaves one outcome only. Assumes nothing.
use Rattle.std.specs.Prelude.{◌≡◌, List, ℕ}
use Rattle.std.proofs.Common.{sym, ◌∙◌}
use Rattle.format.specs.Meaning.{Kind, unsigned_kind, Answered, answered}
use Rattle.decimal.specs.Meaning.{write_of, left_of}

-- `write`: the buffer is `out` before and `left` after
module _ {A : Type 0} (c : Kind A) where
  abbrev pub Write : A → ℕ → ℕ → List ℕ → Answered ℕ → List ℕ → Type 0
  Write raw w f out r left =
      (r ≡ answered unsigned_kind (write_of (c.number_of raw) w f out)) × (left ≡ left_of (c.number_of raw) w f out)

  pub write-unique : (raw : A) (w f : ℕ) (out : List ℕ) (r s : Answered ℕ) (left rest : List ℕ)
      → Write raw w f out r left → Write raw w f out s rest → (r ≡ s) × (left ≡ rest)
  write-unique raw w f out r s left rest p q = (p.0 ∙ sym q.0, p.1 ∙ sym q.1)
