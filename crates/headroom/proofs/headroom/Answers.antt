-- `headroom` meets its promise: where the call is refused, nothing is done; else the verdict's own equations. Assumes nothing.
use Rattle.std.proofs.Common.{◌≡◌, ◌∙◌, sym, false, List, ℕ, ℤ, length, Err}
use Rattle.std.proofs.lemmas.Result.{err_from_is_err_and}
use Rattle.format.specs.declared.refusal.Refusal.{Refusal}
use Rattle.format.specs.Checked.{none-checked}
use Rattle.filter.specs.Meaning.{done_with}
use Rattle.filter.specs.Refuse.{refuses, goes_on}
use Rattle.headroom.specs.Head.{head-fit}
use Rattle.headroom.specs.Meaning.{headed, headroom_of}
use Rattle.headroom.proofs.headroom.Goals as goal

-- what the callee gives, put into the outcome
same_head : {v w : ℕ} {kept witness : List ℤ} → v ≡ w → kept ≡ witness → headed (done_with v false) kept ≡ headed (done_with w false) witness
same_head d k = rw (d, k)

pub returns-in_err-taps : goal.returns-in_err-taps
unfolding headroom_of
returns-in_err-taps c =
    let p = err_from_is_err_and c.from_residual.result c.from_residual.ensures.1 in
    rw (p.1, p.2) (refuses _ _ (λ (e : Refusal). headed (Err e) c.args.witness.now) _ c.in_err-taps.ensures)

pub verdict-requires : goal.verdict-requires
verdict-requires c =
    let let-through = none-checked _ c.in_ok-taps.ensures in
    let fit = head-fit (length c.args.taps.now) (length c.args.witness.now) let-through.0 in
    rw let-through.1 (sym fit.0)

pub returns : goal.returns
unfolding headroom_of
returns c =
    let told = c.verdict.ensures in
    let kept = (none-checked _ c.in_ok-taps.ensures).1 in
    let verdict = rw kept at told.verdict in
    let witness = rw kept at told.witness in
    rw c.into.ensures (same_head (c.number.ensures ∙ verdict) witness
    ∙ goes_on _ _ (λ (e : Refusal). headed (Err e) c.args.witness.now) _ c.in_ok-taps.ensures)
