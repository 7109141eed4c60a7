-- The window that the line slides down in: what a sample in front makes of the line at a place of it, and a line that is laid at its end.
-- Assumes nothing.
use Rattle.std.specs.Prelude.{◌≡◌, List, [], ◌∷◌, ◌++◌, ℕ, suc, ◌+◌, ◌-◌, ◌≤◌, ◌<◌, ℤ, length, take, drop, set}
use Rattle.std.specs.List.{copy_within}
use Rattle.std.proofs.Common.{sym, append_assoc, arith, take_at, drop_at, length-take-le}
use Rattle.std.proofs.lemmas.List.{set_split}
use Rattle.filter.specs.Meaning.{most_taps, next}
use Rattle.filter.specs.Run.{take_inner}

-- the line at a place of a window
abbrev pub line_at : ℕ → List ℤ → List ℤ
line_at at window = take most_taps (drop at window)

-- a sample in front of it
inner : (x : ℤ) (rest : List ℤ) → take most_taps (x ∷ rest) ≡ take most_taps (x ∷ take most_taps rest)
inner x rest = sym (take_inner most_taps most_taps (x ∷ []) rest (omega arith))

slide-up : (window : List ℤ) (at : ℕ) (x : ℤ) → at < length window → line_at at (set window at x) ≡ next (line_at (suc at) window) x
unfolding next
slide-up window at x within =
    let front : drop at (set window at x) ≡ x ∷ drop (suc at) window
    = rw (set_split window at x within) (drop_at (take at window) (x ∷ drop (suc at) window) at (length-take-le at window (omega arith))) in
    rw front (inner x (drop (suc at) window))

pub slide : (window : List ℤ) (at : ℕ) (x : ℤ) → 0 < at → at ≤ length window → line_at (at - 1) (set window (at - 1) x) ≡ next (line_at at window) x
slide window at x some within =
    let before : suc (at - 1) ≡ at = omega arith in
    rw before at (slide-up window (at - 1) x (omega arith))

-- what is written behind as many places as a line has is the line there
pub laid : (front line rest : List ℤ) → length front ≡ most_taps → length line ≡ most_taps → line_at most_taps (front ++ (line ++ rest)) ≡ line
laid front line rest f l = rw (drop_at front (line ++ rest) most_taps f) (take_at line rest most_taps l)

-- the line at the front, copied to the end
pub again : (window : List ℤ) → length window ≡ most_taps + most_taps → line_at most_taps (copy_within window 0 most_taps most_taps) ≡ line_at 0 window
again window long =
    let line = take most_taps window in
    let few : length line ≡ most_taps = length-take-le most_taps window (omega arith) in
    let rest = drop (most_taps + most_taps) window in
    rw (append_assoc line line rest) (laid line line rest few few)
