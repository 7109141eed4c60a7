-- `peak::by_sign` meets its contract: the code makes the two tests of `by_sign`, on the tap as it is read back from its bits.
-- Assumes nothing.
use mathlib.Core.Path.{◌≡◌}
use mathlib.Core.Bool.{true, false}
use lib.IntN.{pos}
use lib.Signed.{lt_z}
use mir.Syntax.{w16}
use mir.Facts.{to_z-of_z}
use Rattle.headroom.specs.Meaning.{by_sign}
use Rattle.headroom.proofs.peak.by_sign.Goals as goal
use Rattle.headroom.proofs.peak.by_sign.Goals.{Else-tap-gt0, Else-tap-lt0, Then-tap-gt0, Then-tap-lt0}

-- the tests' outcomes, of the tap itself
above : (c : Then-tap-gt0) → lt_z (pos 0) c.args.tap ≡ true
above c = rw (to_z-of_z {w = w16} c.ranges.tap) at c.if-tap-gt0.true

not-above : (c : Else-tap-gt0) → lt_z (pos 0) c.args.tap ≡ false
not-above c = rw (to_z-of_z {w = w16} c.ranges.tap) at c.if-tap-gt0.false

below : (c : Then-tap-lt0) → lt_z c.args.tap (pos 0) ≡ true
below c = rw (to_z-of_z {w = w16} c.ranges.tap) at c.if-tap-lt0.true

not-below : (c : Else-tap-lt0) → lt_z c.args.tap (pos 0) ≡ false
not-below c = rw (to_z-of_z {w = w16} c.ranges.tap) at c.if-tap-lt0.false

pub returns-then-tap-gt0 : goal.returns-then-tap-gt0
unfolding by_sign
returns-then-tap-gt0 c = rw (above c, to_z-of_z {w = w16} c.ranges.above)

pub returns-then-tap-lt0 : goal.returns-then-tap-lt0
unfolding by_sign
returns-then-tap-lt0 c = rw (not-above c.before, below c, to_z-of_z {w = w16} c.ranges.below)

pub returns : goal.returns
unfolding by_sign
returns c = rw (not-above c.before, not-below c)
