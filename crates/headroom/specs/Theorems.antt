-- The facts that the headroom check is for, stated of the meaning of the filter itself. Assumes nothing.
use Rattle.std.specs.Prelude.{◌≡◌, ◌↔◌, ◌⊎◌, Err, true, false, List, reverse, ℕ, ◌+◌, ◌^◌, ◌≤◌, ◌<◌, ℤ, length}
use Rattle.std.proofs.Common.{sym, ap, ◌∙◌, inl, inr, arith}
use Rattle.std.proofs.lemmas.List.{length-map}
use Rattle.format.specs.declared.refusal.Refusal.{Refusal}
use Rattle.format.specs.Meaning.{unsigned_kind, named, value_in}
use Rattle.filter.specs.declared.State.{State}
use Rattle.filter.specs.Meaning.{most_taps, history, silence, sum_of, history_after, clips_of, run_of, clipped, block_fault, done_with, Ran, ran, ran_done, ran_of}
use Rattle.filter.specs.Promise.{Runs}
use Rattle.filter.specs.Refuse.{which}
use Rattle.filter.specs.Range.{Samples, samples-after, samples-reverse, samples-zeros}
use Rattle.headroom.specs.declared.peak.Way.{Way}
use Rattle.headroom.specs.declared.peak.Way.TheVariants.{High, Low}
use Rattle.headroom.specs.Ends.{Ends, ends-clipped}
use Rattle.headroom.specs.Verdict.{driving-samples, fed, Told, high, low, neither, told, drives, spares, quiet}
use Rattle.headroom.specs.Meaning.{head_fault, driven_of, driving, clips_way, verdict_of, witness_of, Headed, headed, headroom_of}
use Rattle.headroom.specs.Promise.{Heads}
use Rattle.headroom.specs.Head.{head-fit}
use Rattle.headroom.specs.Drive.{Within, sum-within}
use Rattle.headroom.specs.Closed.{sum_above, sum_below, magnitudes, magnitudes-are, Small, no-low, small-then, then-small}

-- ---- The samples that drive the sum furthest: `driving`, each the end of the range for its tap.
-- no samples, from any state of samples, drive the sum further; and the bound is attained
pub furthest : (way : Way) (taps h xs : List ℤ) → Samples h → Samples xs → Within way (sum_of taps (run_of taps h xs).final) (sum_of taps (driving way taps))
unfolding run_of
furthest way taps h xs s k = sum-within way taps (history_after h xs) (samples-after h xs s k)

pub attained : (way : Way) (taps h : List ℤ) → length taps ≤ most_taps → length h ≤ most_taps
    → sum_of taps (run_of taps h (reverse (driving way taps))).final ≡ sum_of taps (driving way taps)
unfolding run_of
attained way taps h few k = fed taps (driving way taps) h (length-map taps (driven_of way)) few k

-- ---- The verdict. `Ends way r`: the last output of the run r has its clip flag set, and is held to that end.
-- SOUND. Verdict 0: from any state of samples, silence among them, no samples make any output clip.
pub sound : (taps h xs : List ℤ) → verdict_of taps ≡ 0 → Samples h → Samples xs → clipped (run_of taps h xs).flags ≡ 0
unfolding run_of
sound taps h xs e s k = go (told taps)
  where
    go : Told taps → clipped (clips_of taps h xs) ≡ 0
    go (high a v w) = absurd (omega arith)
    go (low a b v w) = absurd (omega arith)
    go (neither a b v) = quiet taps h xs a b s k

-- COMPLETE. No samples make any output clip, from silence or from any one state: then the verdict is 0.
pub complete : (taps h : List ℤ) → length taps ≤ most_taps → length h ≤ most_taps → ((xs : List ℤ) → Samples xs → clipped (run_of taps h xs).flags ≡ 0)
    → verdict_of taps ≡ 0
complete taps h few k all = go (told taps)
  where
    found : (way : Way) → clips_way way taps ≡ true → ⊥
    found way c =
        let w = reverse (driving way taps) in
        let some = ends-clipped way (run_of taps h w) (drives way taps h few k c) in
        omega (arith, all w (samples-reverse (driving way taps) (driving-samples way taps)))

    go : Told taps → verdict_of taps ≡ 0
    go (high a v w) = absurd (found High a)
    go (low a b v w) = absurd (found Low b)
    go (neither a b v) = v

-- The two together, from silence: verdict 0 exactly if no samples whatever make any output clip. And the same from any state of samples.
silence-samples : Samples silence
silence-samples = samples-zeros most_taps

pub verdict-0 : (taps : List ℤ) → length taps ≤ most_taps → (verdict_of taps ≡ 0) ↔ ((xs : List ℤ) → Samples xs → clipped (run_of taps silence xs).flags ≡ 0)
verdict-0 taps few = (λ e xs k. sound taps silence xs e silence-samples k, λ all. complete taps silence few (omega arith) all)

pub verdict-0-any : (taps h : List ℤ) → length taps ≤ most_taps → length h ≤ most_taps → Samples h
    → (verdict_of taps ≡ 0) ↔ ((xs : List ℤ) → Samples xs → clipped (run_of taps h xs).flags ≡ 0)
verdict-0-any taps h few k s = (λ e xs t. sound taps h xs e s t, λ all. complete taps h few k all)

-- NO VERDICT 2. Taps that clip low clip high as well: the range reaches one step further down than up, but 32767.5 steps are rounded up to
-- 32768, which is even, and -32768.5 steps to -32768. So nobody need wait for a 2; what the theorems below say of it is 01's definition.
pub never-2 : (taps : List ℤ) → verdict_of taps ≡ 2 → ⊥
never-2 taps e = go (told taps)
  where
    go : Told taps → ⊥
    go (high a v w) = omega arith
    go (low a b v w) = no-low taps a b
    go (neither a b v) = omega arith

pub zero-or-one : (taps : List ℤ) → (verdict_of taps ≡ 0) ⊎ (verdict_of taps ≡ 1)
zero-or-one taps = go (told taps)
  where
    go : Told taps → (verdict_of taps ≡ 0) ⊎ (verdict_of taps ≡ 1)
    go (high a v w) = inr v
    go (low a b v w) = absurd (no-low taps a b)
    go (neither a b v) = inl v

-- CLOSED FORM. With A the sum of the taps above 0 and B that of the magnitudes of those below, in steps: verdict 0 exactly if A + B is at most
-- 32767, or A + B is 32768 and B below 16384. Else the verdict is 1 (`zero-or-one`).
pub closed-form : (taps : List ℤ)
    → (verdict_of taps ≡ 0)
    ↔ ((sum_above taps + sum_below taps ≤ 32767) ⊎ ((sum_above taps + sum_below taps ≡ 32768) × (sum_below taps < 16384)))
closed-form taps = (λ e. there e (told taps), λ h. back h (told taps))
  where
    there : verdict_of taps ≡ 0 → Told taps → Small taps
    there e (high a v w) = absurd (omega arith)
    there e (low a b v w) = absurd (omega arith)
    there e (neither a b v) = then-small taps a

    back : Small taps → Told taps → verdict_of taps ≡ 0
    back h (high a v w) = absurd (small-then taps h a)
    back h (low a b v w) = absurd (no-low taps a b)
    back h (neither a b v) = v

-- magnitudes that add up to less than 1, 2^15 steps, never clip: no samples, from any state of samples, make any output clip
pub below_one : (taps h xs : List ℤ) → magnitudes taps < 2 ^ 15 → Samples h → Samples xs → clipped (run_of taps h xs).flags ≡ 0
below_one taps h xs l s k = sound taps h xs ((closed-form taps).1 (inl (omega (arith, magnitudes-are taps)))) s k

-- Verdict 1: the witness, fed oldest first, makes the last output clip high. Verdict 2: no samples clip high, and the witness makes the last output
-- clip low. Both from any state, silence among them; `before` is what the witness buffer held.
pub verdict-1 : (taps h before : List ℤ) → length taps ≤ most_taps → length h ≤ most_taps → verdict_of taps ≡ 1
    → Ends High (run_of taps h (reverse (witness_of taps before)))
verdict-1 taps h before few k e = go (told taps)
  where
    go : Told taps → Ends High (run_of taps h (reverse (witness_of taps before)))
    go (high a v w) = rw (w before) (drives High taps h few k a)
    go (low a b v w) = absurd (omega arith)
    go (neither a b v) = absurd (omega arith)

pub verdict-2 : (taps h before : List ℤ) → length taps ≤ most_taps → length h ≤ most_taps → verdict_of taps ≡ 2
    → Ends Low (run_of taps h (reverse (witness_of taps before)))
verdict-2 taps h before few k e = go (told taps)
  where
    go : Told taps → Ends Low (run_of taps h (reverse (witness_of taps before)))
    go (high a v w) = absurd (omega arith)
    go (low a b v w) = rw (w before) (drives Low taps h few k b)
    go (neither a b v) = absurd (omega arith)

-- and the other way: samples that clip high are found as 1, whatever else clips; so with verdict 0 or 2 none clip high
pub ends-high : (taps h xs : List ℤ) → Samples h → Samples xs → Ends High (run_of taps h xs) → verdict_of taps ≡ 1
ends-high taps h xs s k end = go (told taps)
  where
    go : Told taps → verdict_of taps ≡ 1
    go (high a v w) = v
    go (low a b v w) = absurd (spares High taps h xs a s k end)
    go (neither a b v) = absurd (spares High taps h xs a s k end)

pub verdict-2-high : (taps h xs : List ℤ) → verdict_of taps ≡ 2 → Samples h → Samples xs → Ends High (run_of taps h xs) → ⊥
verdict-2-high taps h xs e s k end = omega (arith, ends-high taps h xs s k end)

-- samples that clip low, where none clip high, are found as 2
pub ends_low : (taps h xs : List ℤ) → Samples h → Samples xs → Ends Low (run_of taps h xs) → (verdict_of taps ≡ 1 → ⊥) → verdict_of taps ≡ 2
ends_low taps h xs s k end not-high = go (told taps)
  where
    go : Told taps → verdict_of taps ≡ 2
    go (high a v w) = absurd (not-high v)
    go (low a b v w) = v
    go (neither a b v) = absurd (spares Low taps h xs b s k end)

-- either way, the witness makes an output clip
pub witness-clips : (taps h before : List ℤ) → length taps ≤ most_taps → length h ≤ most_taps → (verdict_of taps ≡ 0 → ⊥)
    → 0 < clipped (run_of taps h (reverse (witness_of taps before))).flags
witness-clips taps h before few k some = go (told taps)
  where
    go : Told taps → 0 < clipped (run_of taps h (reverse (witness_of taps before))).flags
    go (high a v w) = rw (w before) (ends-clipped High (run_of taps h (reverse (driving High taps))) (drives High taps h few k a))
    go (low a b v w) = rw (w before) (ends-clipped Low (run_of taps h (reverse (driving Low taps))) (drives Low taps h few k b))
    go (neither a b v) = absurd (some v)

-- ---- The public functions together, by their promises alone: `Heads` is what `headroom` promises, `Runs` what `run` does.
-- an answer that is done is the meaning's, and not a refusal's
same-value : {v w : ℕ} → done_with v false ≡ done_with w false → v ≡ w
unfolding value_in
same-value e = ap (value_in unsigned_kind) e

not-refused : {v : ℕ} {r : Refusal} {A : Type 0} → done_with v false ≡ Err r → A
not-refused e =
    let z : ◌≡◌ {A = ℕ} 0 1 = cc in
    absurd (omega arith)

head_done : (taps witness kept : List ℤ) (v : ℕ) → Heads taps witness (done_with v false) kept
    → (length taps ≤ most_taps) × ((v ≡ verdict_of taps) × (kept ≡ witness_of taps witness))
unfolding headroom_of
head_done taps witness kept v p = pick (which _ _ _ p)
  where
    pick : ((head_fault (length taps) (length witness) ≡ 0) × (headed (done_with v false) kept ≡ headed (done_with (verdict_of taps) false) (witness_of taps witness)))
        ⊎ (headed (done_with v false) kept ≡ headed (Err (named (head_fault (length taps) (length witness)))) witness)
        → (length taps ≤ most_taps) × ((v ≡ verdict_of taps) × (kept ≡ witness_of taps witness))
    pick (inl h) =
        ((head-fit (length taps) (length witness) h.0).1, (same-value (ap (λ (r : Headed). r.answer) h.1), ap (λ (r : Headed). r.witness) h.1))
    pick (inr h) = not-refused (ap (λ (r : Headed). r.answer) h)

-- `headroom` never answers 2
pub no-answer-2 : (taps witness kept : List ℤ) → Heads taps witness (done_with 2 false) kept → ⊥
no-answer-2 taps witness kept p = never-2 taps (sym (head_done taps witness kept 2 p).1.0)

run-done : (taps : List ℤ) (state state' : State) (samples outputs outputs' : List ℤ) (marks marks' : List ℕ) (n : ℕ)
    → Runs taps state samples outputs marks (done_with n false) state' outputs' marks' → n ≡ clipped (run_of taps (history state) samples).flags
unfolding ran_of
run-done taps state state' samples outputs outputs' marks marks' n p = pick (which _ _ _ p)
  where
    pick : ((block_fault (length taps) (length samples) (length outputs) (length marks) ≡ 0)
        × (ran (done_with n false) state' outputs' marks' ≡ ran_done (run_of taps (history state) samples)))
        ⊎ (ran (done_with n false) state' outputs' marks'
        ≡ ran (Err (named (block_fault (length taps) (length samples) (length outputs) (length marks)))) state outputs marks)
        → n ≡ clipped (run_of taps (history state) samples).flags
    pick (inl h) = same-value (ap (λ (r : Ran). r.answer) h.1)
    pick (inr h) = not-refused (ap (λ (r : Ran). r.answer) h)

module _ (taps witness kept : List ℤ) (state state' : State) (samples outputs outputs' : List ℤ) (marks marks' : List ℕ) (n : ℕ) where
  -- NO SQUEAL. `headroom` answers 0: then `run`, on any block of samples from any state of samples, counts no clip.
  pub no-squeal : Heads taps witness (done_with 0 false) kept → Samples (history state) → Samples samples
      → Runs taps state samples outputs marks (done_with n false) state' outputs' marks' → n ≡ 0
  no-squeal p s k q =
      run-done taps state state' samples outputs outputs' marks marks' n q
      ∙ sound taps (history state) samples (sym (head_done taps witness kept 0 p).1.0) s k

  -- `headroom` answers 1 or 2: then `run`, on the witness it leaves, oldest first, from any state, counts one.
  pub squeal : (v : ℕ) → Heads taps witness (done_with (v + 1) false) kept → length (history state) ≤ most_taps → samples ≡ reverse kept
      → Runs taps state samples outputs marks (done_with n false) state' outputs' marks' → 0 < n
  squeal v p l e q =
      let h = head_done taps witness kept (v + 1) p in
      let fed : samples ≡ reverse (witness_of taps witness) = e ∙ ap reverse h.1.1 in
      let count = run-done taps state state' samples outputs outputs' marks marks' n q in
      rw (count, fed) (witness-clips taps (history state) witness h.0 l (λ z. omega (arith, h.1.0)))
