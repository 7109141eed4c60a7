-- What the driving samples decide: where they clip, they are a witness from any state; where they do not, no run ends so. Assumes nothing.
use Rattle.std.specs.Prelude.{◌≡◌, refl, Bool, true, false, List, [], ◌∷◌, ◌++◌, reverse, ◌≤◌, ℤ, length, take}
use Rattle.std.proofs.Common.{sym, ◌∙◌, arith, take-take, take_at}
use Rattle.std.proofs.lemmas.Bool.{false≢true}
use Rattle.std.proofs.lemmas.List.{reverse-reverse, length-map, length-reverse}
use Rattle.filter.specs.Meaning.{most_taps, next, sum_of, level_of, clip_of, history_after, clips_of, run_of, bit_of, clipped}
use Rattle.filter.specs.Range.{Samples, none, more, samples-after, samples-next}
use Rattle.filter.specs.Rounding.{rounded-zero}
use Rattle.filter.specs.Run.{after_is}
use Rattle.filter.specs.Sum.{sum-take}
use Rattle.headroom.specs.declared.peak.Way.{Way}
use Rattle.headroom.specs.declared.peak.Way.TheVariants.{High, Low}
use Rattle.headroom.specs.Ends.{Ends, ends-past, past-ends}
use Rattle.headroom.specs.Meaning.{driven_of, driving, clips_way, verdict_of, witness_of}
use Rattle.headroom.specs.Past.{driven-sample, zero-inside, inside-keeps}
use Rattle.headroom.specs.Drive.{never-passes}

pub driving-samples : (way : Way) (taps : List ℤ) → Samples (driving way taps)
driving-samples way [] = none
driving-samples way (t ∷ ts) = more (driven-sample way t) (driving-samples way ts)

-- fed oldest first, from any state, they are what the taps meet
pub fed : (taps w h : List ℤ) → length w ≡ length taps → length taps ≤ most_taps → length h ≤ most_taps → sum_of taps (history_after h (reverse w)) ≡ sum_of taps w
fed taps w h e few k =
    let whole : history_after h (reverse w) ≡ take most_taps (w ++ h) = after_is h (reverse w) k ∙ rw reverse-reverse in
    let part : take (length taps) (take most_taps (w ++ h)) ≡ w = take-take (length taps) most_taps (w ++ h) few ∙ take_at w h (length taps) e in
    sym (sum-take taps (history_after h (reverse w))) ∙ (rw (whole, part))

-- which way the driving samples clip, and the verdict for it
pub data Told (taps : List ℤ) : Type 0 where
  high : clips_way High taps ≡ true → verdict_of taps ≡ 1 → ((before : List ℤ) → witness_of taps before ≡ driving High taps) → Told taps
  low : clips_way High taps ≡ false → clips_way Low taps ≡ true → verdict_of taps ≡ 2 → ((before : List ℤ) → witness_of taps before ≡ driving Low taps) → Told taps
  neither : clips_way High taps ≡ false → clips_way Low taps ≡ false → verdict_of taps ≡ 0 → Told taps

pub told : (taps : List ℤ) → Told taps
unfolding verdict_of witness_of
told taps = go (clips_way High taps) (clips_way Low taps) refl refl
  where
    go : (a b : Bool) → clips_way High taps ≡ a → clips_way Low taps ≡ b → Told taps
    go true b h l = high h (rw h) (λ before. rw h)
    go false true h l = low h l (rw (h, l)) (λ before. rw (h, l))
    go false false h l = neither h l (rw (h, l))

-- no taps, no clip
nothing-clips : (way : Way) → clips_way way [] ≡ true → ⊥
unfolding clips_way level_of sum_of
nothing-clips way c = zero-inside way (rw rounded-zero at c)

-- the driving samples, fed oldest first from any state, end past the range where the test says so
pub drives : (way : Way) (taps h : List ℤ) → length taps ≤ most_taps → length h ≤ most_taps → clips_way way taps ≡ true
    → Ends way (run_of taps h (reverse (driving way taps)))
unfolding clips_way level_of
drives way [] h few k c = absurd (nothing-clips way c)
drives way (t ∷ ts) h few k c =
    let taps = t ∷ ts in
    let w = driving way taps in
    let long : length (reverse w) ≡ length taps = length-reverse w ∙ length-map taps (driven_of way) in
    past-ends way taps h (reverse w) (omega arith)
    (rw (fed taps w h (length-map taps (driven_of way)) few k) c)

-- where the driving samples do not clip that way, no run ends so
pub spares : (way : Way) (taps h xs : List ℤ) → clips_way way taps ≡ false → Samples h → Samples xs → Ends way (run_of taps h xs) → ⊥
spares way taps h xs c s k e = absurd (false≢true (sym (never-passes way taps (history_after h xs) (samples-after h xs s k) c) ∙ ends-past way taps h xs e))

pub quiet : (taps h xs : List ℤ) → clips_way High taps ≡ false → clips_way Low taps ≡ false → Samples h → Samples xs → clipped (clips_of taps h xs) ≡ 0
unfolding clips_of clipped bit_of clip_of
quiet taps h [] a b s k = refl
quiet taps h (x ∷ xs) a b s (more m k) =
    let new = next h x in
    let t = samples-next h x s m in
    let flag = (inside-keeps (level_of taps new) (never-passes High taps new t a) (never-passes Low taps new t b)).0 in
    rw flag (omega (arith, quiet taps new xs a b t k))
