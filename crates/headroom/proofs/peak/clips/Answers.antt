-- `peak::clips` meets its contract: the test of the level is the test of the meaning, since the line starts with the driving samples.
-- Assumes nothing.
use Rattle.std.proofs.Common.{◌≡◌, refl, sym, ◌∙◌, Bool, List, ◌^◌, ◌<◌, length, take, ℤ, to_z, of_z, w64}
use lib.Signed.{mag}
use Rattle.laws.specs.Signed.{ok-back}
use Rattle.filter.specs.Meaning.{level_of}
use Rattle.headroom.specs.declared.peak.Way.{Way}
use Rattle.headroom.specs.Meaning.{driving, passes, clips_way}
use Rattle.headroom.specs.Head.{test-way}
use Rattle.headroom.proofs.peak.clips.Goals as goal

-- the test, of the meaning: y is the level of a line that starts with the driving samples
way-is : (way : Way) (own taps line : List ℤ) {y : ℤ} {t : Bool} → own ≡ taps → mag y < 2 ^ 63 → y ≡ level_of own line
    → take (length taps) line ≡ driving way taps → t ≡ passes way (to_z w64 (of_z w64 y)) → t ≡ clips_way way taps
way-is way own taps line {y} {t} e fits level drives test =
    let starts = rw (← e) at drives in
    rw e at (sym (test-way way own line y t level starts (sym (rw (ok-back w64 y fits) at test))))

pub returns-then-clips : goal.returns-then-clips
returns-then-clips c =
    let own = c.raws-taps.ensures.taps in
    let drives = c.drive-line.ensures in
    let level = c.level in
    let way = way-is c.args.way c.raws-taps.result.now c.args.taps.now c.drive-line.result own level.type_inv level.ensures drives c.passes-clips.ensures in
    let starts = rw (← own) at drives in
    let kept = c.copy_from_slice.ensures.after ∙ starts in
    record { way = way; witness = rw (sym way ∙ c.if-clips.true) (rw own at kept) }

pub returns-else-clips : goal.returns-else-clips
returns-else-clips c =
    let level = c.level in
    let way = way-is c.args.way c.raws-taps.result.now c.args.taps.now c.drive-line.result c.raws-taps.ensures.taps level.type_inv level.ensures c.drive-line.ensures c.passes-clips.ensures in
    record { way = way; witness = rw (sym way ∙ c.if-clips.false) refl }
