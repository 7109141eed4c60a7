-- What each public function promises, refusals included, and that nothing is left open: two outcomes
-- that meet a promise are equal. Assumes nothing.
use Rattle.std.specs.Prelude.{◌≡◌, List, ℕ, ℤ}
use Rattle.std.proofs.Common.{sym, ap, ◌∙◌}
use Rattle.format.specs.Meaning.{Answered}
use Rattle.filter.specs.declared.State.{State}
use Rattle.filter.specs.declared.Stepped.{Stepped}
use Rattle.filter.specs.Meaning.{history, state_of, silence, step_of, Ran, ran, ran_of}

-- ---- silent: the state at the start
abbrev pub Silent : State → Type 0
Silent r = r ≡ state_of silence

-- ---- step: the output with its clip flag; the state holds the new sample
abbrev pub Steps : List ℤ → State → ℤ → Stepped → Type 0
Steps taps state x r = r ≡ step_of taps (history state) x

-- ---- run: how many outputs clipped; the state, the outputs and their clip bytes as the call leaves them
abbrev pub Runs : List ℤ → State → List ℤ → List ℤ → List ℕ → Answered ℕ → State → List ℤ → List ℕ → Type 0
Runs taps state samples outputs marks r state' outputs' marks' =
    ran r state' outputs' marks' ≡ ran_of taps state samples outputs marks

-- ---- one outcome each
pub silent-unique : (r s : State) → Silent r → Silent s → r ≡ s
silent-unique r s p q = p ∙ sym q

pub step-unique : (taps : List ℤ) (state : State) (x : ℤ) (r s : Stepped) → Steps taps state x r → Steps taps state x s
    → r ≡ s
step-unique taps state x r s p q = p ∙ sym q

module _ (taps : List ℤ) (state : State) (samples outputs : List ℤ) (marks : List ℕ) where
  pub run-unique : (a b : Answered ℕ) (s t : State) (o p : List ℤ) (m n : List ℕ)
      → Runs taps state samples outputs marks a s o m → Runs taps state samples outputs marks b t p n
      → (a ≡ b) × ((s ≡ t) × ((o ≡ p) × (m ≡ n)))
  run-unique a b s t o p m n h k =
      let e = h ∙ sym k in (
        ap (λ (r : Ran). r.answer) e,
        (ap (λ (r : Ran). r.state) e, (ap (λ (r : Ran). r.outputs) e, ap (λ (r : Ran). r.marks) e)),
      )

-- ---- inside, for `headroom` too: `Taps::raws` is the list of the taps, and what it says besides of their number
-- leaves no other
pub raws-unique : (taps r s : List ℤ) → r ≡ taps → s ≡ taps → r ≡ s
raws-unique taps r s p q = p ∙ sym q
