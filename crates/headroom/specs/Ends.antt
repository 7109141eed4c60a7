-- How a run ends: the last output clips one way exactly if the last level is past that end of the range. Assumes nothing.
use Rattle.std.specs.Prelude.{◌≡◌, refl, Bool, true, false, List, [], ◌∷◌, ◌+◌, ◌<◌, ℤ, pos, length}
use Rattle.std.proofs.Common.{sym, ◌∙◌, arith}
use Rattle.std.proofs.lemmas.Bool.{false≢true}
use Rattle.filter.specs.Meaning.{next, level_of, output_of, clip_of, history_after, outputs_of, clips_of, Run, run_of, bit_of, clipped}
use Rattle.headroom.specs.declared.peak.Way.{Way}
use Rattle.headroom.specs.Meaning.{passes}
use Rattle.headroom.specs.Past.{end_of, past-clips, clips-past}

-- the last of a list, d where there is none
unfoldable pub last_with : {A : Type 0} → A → List A → A
last_with d [] = d
last_with d (x ∷ xs) = last_with x xs

-- the last output clips that way: its flag is set, and it is held to that end
pub record Ends (way : Way) (r : Run) : Type 0 where
  pub flag : last_with false r.flags ≡ true
  pub output : last_with (pos 0) r.outputs ≡ end_of way

last-output : (taps h : List ℤ) (d : ℤ) (x : ℤ) (xs : List ℤ) → last_with d (outputs_of taps h (x ∷ xs)) ≡ output_of taps (history_after h (x ∷ xs))
unfolding last_with outputs_of history_after
last-output taps h d x [] = refl
last-output taps h d x (y ∷ ys) = last-output taps (next h x) (output_of taps (next h x)) y ys

last-flag : (taps h : List ℤ) (d : Bool) (x : ℤ) (xs : List ℤ) → last_with d (clips_of taps h (x ∷ xs)) ≡ clip_of taps (history_after h (x ∷ xs))
unfolding last_with clips_of history_after
last-flag taps h d x [] = refl
last-flag taps h d x (y ∷ ys) = last-flag taps (next h x) (clip_of taps (next h x)) y ys

-- so a run ends past an end of the range exactly if its last level is
pub ends-past : (way : Way) (taps h xs : List ℤ) → Ends way (run_of taps h xs) → passes way (level_of taps (history_after h xs)) ≡ true
unfolding run_of last_with clips_of output_of clip_of
ends-past way taps h [] e = absurd (false≢true e.flag)
ends-past way taps h (x ∷ xs) e =
    clips-past way (level_of taps (history_after h (x ∷ xs))) (sym (last-flag taps h false x xs) ∙ e.flag) (sym (last-output taps h (pos 0) x xs) ∙ e.output)

pub past-ends : (way : Way) (taps h xs : List ℤ) → 0 < length xs → passes way (level_of taps (history_after h xs)) ≡ true → Ends way (run_of taps h xs)
unfolding run_of output_of clip_of
past-ends way taps h [] l p = absurd (omega arith)
past-ends way taps h (x ∷ xs) l p =
    let c = past-clips way (level_of taps (history_after h (x ∷ xs))) p in
    record { flag = last-flag taps h false x xs ∙ c.0; output = last-output taps h (pos 0) x xs ∙ c.1 }

-- a run that ends in a clip has one
last-counts : (b : Bool) (flags : List Bool) → last_with b flags ≡ true → 0 < bit_of b + clipped flags
unfolding last_with clipped bit_of
last-counts true [] e = omega arith
last-counts false [] e = absurd (false≢true e)
last-counts b (f ∷ flags) e = omega (arith, last-counts f flags e)

pub ends-clipped : (way : Way) (r : Run) → Ends way r → 0 < clipped r.flags
unfolding bit_of
ends-clipped way r e = omega (arith, last-counts false r.flags e.flag)
