-- `peak::driven` meets its contract: each way is `by_sign` of its two ends. Assumes nothing.
use mathlib.Core.Path.{◌≡◌, ◌∙◌}
use lib.IntN.{ℤ, pos, negsuc}
use mir.Syntax.{w16}
use mir.Facts.{to_z-of_z}
use Rattle.laws.specs.Signed.{ok-back}
use Rattle.format.specs.Meaning.{lowest, highest}
use Rattle.headroom.specs.declared.peak.Way.{Way}
use Rattle.headroom.specs.declared.peak.Way.TheVariants.{High, Low}
use Rattle.headroom.specs.Meaning.{by_sign, driven_of}
use Rattle.headroom.proofs.peak.driven.Goals as goal

high : (t : ℤ) {r : ℤ} {w : Way} → w ≡ High → r ≡ by_sign t (pos 32767) (negsuc 32767) → r ≡ driven_of w t
unfolding driven_of lowest highest
high t e h = rw e h

low : (t : ℤ) {r : ℤ} {w : Way} → w ≡ Low → r ≡ by_sign t (negsuc 32767) (pos 32767) → r ≡ driven_of w t
unfolding driven_of lowest highest
low t e h = rw e h

pub returns-in-High : goal.returns-in-High
returns-in-High c =
    let told = rw (to_z-of_z {w = w16} c.ranges.tap) at c.by_sign.ensures in
    ok-back w16 c.by_sign.result c.by_sign.type_inv ∙ high c.args.tap c.in-High.is told

pub returns-in-Low : goal.returns-in-Low
returns-in-Low c =
    let told = rw (to_z-of_z {w = w16} c.ranges.tap) at c.by_sign-in-Low.ensures in
    ok-back w16 c.by_sign-in-Low.result c.by_sign-in-Low.type_inv ∙ low c.args.tap c.in-Low.is told
