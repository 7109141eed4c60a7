-- `peak::drive` meets its contract. The loop's invariant: the first i places hold the driven samples of the first i taps.
-- Assumes nothing.
use mathlib.Core.Path.{◌≡◌, refl, ap, ◌∙◌}
use mathlib.Core.List.{List, map}
use Prim.Native.Nat.{ℕ, ◌≤◌, ◌<◌, ◌+◌}
use native.Mathlib.Omega.{arith}
use lib.IntN.{ℤ, pos}
use lib.ListN.{length, get_or, set, take, length-set}
use lib.Seq.{take-length}
use mir.Syntax.{w16}
use Rattle.laws.specs.Lists.{map-step}
use Rattle.laws.specs.Signed.{ok-back}
use Rattle.filter.specs.Meaning.{most_taps}
use Rattle.headroom.specs.declared.peak.Way.{Way}
use Rattle.headroom.specs.Meaning.{driven_of}
use Rattle.headroom.proofs.peak.drive.Goals as goal

pub loop-i-init : goal.loop-i-init
loop-i-init c = (omega arith, (refl, refl))

-- one tap more
module _ (way : Way) (taps line : List ℤ) (i : ℕ) (v : ℤ) (here : i < length taps) (few : length taps ≤ most_taps) (long : length line ≡ most_taps)
    (is : v ≡ driven_of way (get_or taps i (pos 0))) where
  more : take i line ≡ map (driven_of way) (take i taps)
      → (i + 1 ≤ length taps) × ((length (set line i v) ≡ most_taps) × (take (i + 1) (set line i v) ≡ map (driven_of way) (take (i + 1) taps)))
  more so-far = (omega arith, (length-set line i v ∙ long, map-step _ taps line i (pos 0) v here (omega arith) so-far is))

pub loop-i-preserved : goal.loop-i-preserved
loop-i-preserved c =
    let raws = c.raws-tap-items.result.now in
    let own = c.raws-tap-items.ensures.taps in
    let i = c.loop-i.i in
    let inv = c.loop-i.invariant in
    let told = rw (ok-back w16 (get_or raws i (pos 0)) (omega arith)) at c.driven.ensures in
    let so-far = rw (← own) at inv.1.1 in
    rw own at (more c.args.way raws c.loop-i.line i _ (omega arith) c.raws-tap-items.ensures.few inv.1.0
    (ok-back w16 c.driven.result c.driven.type_inv ∙ told) so-far)

pub returns : goal.returns
returns c =
    let end : c.loop-i.i ≡ length c.args.taps.now = omega (arith, ap length c.raws-tap-items.ensures.taps) in
    let all = take-length c.args.taps.now in
    rw (end, all) at c.loop-i.invariant.1.1
