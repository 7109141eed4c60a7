-- `line::push` meets its contract. The loop's invariant: the first i places are those of x and the old line behind it, the rest is the old line's,
-- and the sample in hand is the next. The measure is what is left. Assumes nothing.
use mathlib.Core.Path.{◌≡◌, refl, ◌∙◌}
use mathlib.Core.List.{◌∷◌}
use native.Mathlib.Numerals.{add-one}
use native.Mathlib.Omega.{arith}
use lib.IntN.{pos}
use mir.Syntax.{w16}
use mir.Val.{to_z, of_z}
use mir.Facts.{to_z-of_z}
use Rattle.laws.specs.Signed.{ok-back}
use Rattle.filter.specs.Meaning.{most_taps, next}
use Rattle.filter.specs.Line.{old-here, new-here, all_new}
use Rattle.filter.proofs.line.push.Goals as goal

pub loop-place-init : goal.loop-place-init
loop-place-init c = (omega arith, (c.told-line, (refl, refl)))

pub loop-place-preserved : goal.loop-place-preserved
loop-place-preserved c =
    let loop = c.loop-place in
    let inv = loop.invariant in
    let old = c.args.line.now in
    let new = to_z w16 (of_z w16 c.args.x) ∷ old in
    let here = c.replace-carried in
    let i = loop.place-index in
    let was = old-here old new loop.line (pos 0) i (omega arith) (omega arith) inv.1.1.0 in (
      omega arith,
      (
        inv.1.0,
        (
          new-here old new loop.line (pos 0) i (omega arith) (omega arith) inv.1.1.0 here.new.dest (here.ensures.after ∙ inv.1.1.1),
          rw (add-one i) (ok-back w16 here.result here.type_inv ∙ here.ensures.value ∙ was),
        ),
      ),
    )

pub returns : goal.returns
unfolding next
returns c =
    let loop = c.loop-place in
    let end : loop.place-index ≡ most_taps = omega arith in
    rw (to_z-of_z {w = w16} c.ranges.x, end) at (all_new c.args.line.now _ loop.line loop.place-index (omega arith) loop.invariant.1.1.0)
