-- What `headroom` promises, refusals included: the verdict, and the witness as the call leaves it;
-- and that nothing is left open. Assumes nothing.
use Rattle.std.specs.Prelude.{◌≡◌, List, ℕ, ℤ}
use Rattle.std.proofs.Common.{sym, ap, ◌∙◌}
use Rattle.format.specs.Meaning.{Answered}
use Rattle.headroom.specs.Meaning.{Headed, headed, headroom_of}

abbrev pub Heads : List ℤ → List ℤ → Answered ℕ → List ℤ → Type 0
Heads taps witness r witness' = headed r witness' ≡ headroom_of taps witness

-- one outcome
pub headroom-unique : (taps witness : List ℤ) (a b : Answered ℕ) (w v : List ℤ) → Heads taps witness a w
    → Heads taps witness b v → (a ≡ b) × (w ≡ v)
headroom-unique taps witness a b w v h k =
    let e = h ∙ sym k in
    (ap (λ (r : Headed). r.answer) e, ap (λ (r : Headed). r.witness) e)
