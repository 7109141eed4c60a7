-- `step` meets its promise: where the number of taps is refused, nothing is done; else the callees' equations, one in the other. Assumes nothing.
use Rattle.std.proofs.Common.{rules, Err}
use mathlib.Core.Path.{◌≡◌, ap, ◌∙◌}
use mathlib.Core.Bool.{Bool}
use mathlib.Core.List.{List}
use lib.IntN.{ℤ}
use mir.Syntax.{w16, w64}
use mir.Facts.{to_z-of_z}
use mir.Val.{to_z, of_z}
use Rattle.laws.specs.Signed.{ok-back}
use Rattle.format.specs.declared.refusal.Refusal.{Refusal}
use Rattle.format.specs.Checked.{none-checked}
use Rattle.filter.specs.declared.sum.Held.{Held}
use Rattle.filter.specs.Meaning.{output_of, clip_of, done_with, stepped, step_of}
use Rattle.filter.specs.Refuse.{refuses, goes_on}
use Rattle.filter.proofs.step.Goals as goal

-- what the callees give, put into the step's outcome
same_step : (taps : List ℤ) {y : ℤ} {b : Bool} {line new : List ℤ} → y ≡ output_of taps line → b ≡ clip_of taps line → line ≡ new
    → stepped (done_with y b) line ≡ stepped (done_with (output_of taps new) (clip_of taps new)) new
same_step taps o f l = rw (o, f, l)

pub returns-in-Err : goal.returns-in-Err
unfolding step_of
returns-in-Err c = refuses _ _ (λ (e : Refusal). stepped (Err e) c.args.state.samples) _ c.in-Err.ensures

pub returns-in-Ok : goal.returns-in-Ok
unfolding step_of output_of clip_of
returns-in-Ok c =
    let output = c.output-held in
    let kept : c.in-Ok.taps ≡ c.args.taps.now = (none-checked _ c.in-Ok.ensures).1 in
    let held = rw kept at output.ensures in
    let line = rw (to_z-of_z {w = w16} c.ranges.x) at c.push.ensures in
    let value : to_z w64 (of_z w64 c.from.result) ≡ output.result.value = search (rules, ok-back) in
    same_step c.args.taps.now (value ∙ ap (λ (h : Held). h.value) held) (ap (λ (h : Held). h.clipped) held) line
    ∙ goes_on _ _ (λ (e : Refusal). stepped (Err e) c.args.state.samples) _ c.in-Ok.ensures
