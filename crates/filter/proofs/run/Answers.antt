-- `run` meets its promise: where the call is refused, nothing is done; else the block is through, and the line, which was the state, is the state again.
-- Assumes nothing.
use Rattle.std.proofs.Common.{◌≡◌, ◌∙◌, false, List, ℕ, ℤ, Err}
use Rattle.std.proofs.lemmas.Result.{err_from_is_err_and}
use Rattle.format.specs.declared.refusal.Refusal.{Refusal}
use Rattle.format.specs.Checked.{none-checked}
use Rattle.filter.specs.Refuse.{block_fit, refuses, goes_on}
use Rattle.filter.specs.Block.{Through}
use Rattle.filter.specs.Meaning.{state_of, done_with, run_of, ran, ran_done, ran_of}
use Rattle.filter.proofs.run.Goals as goal

-- a block that is through, put into the outcome
same-run : {taps before samples final outputs : List ℤ} {marks : List ℕ} {count : ℕ} → Through taps before samples final outputs marks count
    → ran (done_with count false) (state_of final) outputs marks ≡ ran_done (run_of taps before samples)
unfolding run_of
same-run t = rw (t.final-is, t.outputs-are, t.marks-are, t.count-is)

pub returns-in_err-taps : goal.returns-in_err-taps
unfolding ran_of
returns-in_err-taps c =
    let a = c.args in
    let p = err_from_is_err_and c.from_residual.result c.from_residual.ensures.1 in
    let left = λ (e : Refusal). ran (Err e) (state_of a.state.now) a.outputs.now a.clips.now in
    rw (p.1, p.2) (refuses _ _ left _ c.in_err-taps.ensures)

pub through-count-requires : goal.through-count-requires
through-count-requires c =
    let f = block_fit _ _ _ _ (none-checked _ c.in_ok-taps.ensures).0 in
    record { outputs_len = f.outputs-fit; clips_len = f.clips-fit }

pub returns : goal.returns
unfolding ran_of
returns c =
    let a = c.args in
    let kept = (none-checked _ c.in_ok-taps.ensures).1 in
    let final = c.copy_from_slice.ensures.after ∙ c.line.ensures.line in
    let left = λ (e : Refusal). ran (Err e) (state_of a.state.now) a.outputs.now a.clips.now in
    rw (c.into.ensures, final) (same-run (rw (kept, c.lay.ensures) at c.through-count.ensures) ∙ goes_on _ _ left _ c.in_ok-taps.ensures)
