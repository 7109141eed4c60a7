-- The raws of I1F15, and what holding does to a number by where it lies: below the range, above it, or in it. By the laws of the format.
-- Assumes nothing.
use Rattle.std.specs.Prelude.{◌≡◌, refl, Bool, true, false, not, ℕ, zero, suc, ℤ, pos, take, replicate}
use Rattle.std.proofs.Common.{ap, true≢false, SFits}
use mathlib.Core.List.{List, [], ◌∷◌, ◌++◌, reverse, reverse-cons}
use Rattle.std.specs.Int.Signed.{lt_z, clash_ℤ}
use Rattle.std.specs.Int.{w16}
use Rattle.laws.specs.Signed.{signed as kit}
use Rattle.laws.specs.Tests.{lt_z-true, lt_z-false}
use Rattle.format.specs.Meaning.{signed, lowest, highest, fits}
use Rattle.format.specs.Theorems.{InRange, fits_in, in-fits, unfit-iff}
use Rattle.format.proofs.Theorems.{hold-in, hold-low, hold-high, hold-id}
use Rattle.filter.specs.Meaning.{most_taps, next, history_after, held, clips}

-- a raw of I1F15, and a list of them
abbrev pub Sample : ℤ → Type 0
Sample x = InRange signed 16 x

pub data Samples : List ℤ → Type 0 where
  none : Samples []
  more : {x : ℤ} {xs : List ℤ} → Sample x → Samples xs → Samples (x ∷ xs)

pub sample-sfits : (x : ℤ) → Sample x → SFits w16 x
unfolding lowest highest
sample-sfits x h = omega kit

pub zero-sample : Sample (pos 0)
unfolding lowest highest
zero-sample = record { low = omega kit; high = omega kit }

-- lists of samples: a part, a list behind another, the list the other way round, zeros, the next history, the history after a block
samples-take : (n : ℕ) (xs : List ℤ) → Samples xs → Samples (take n xs)
samples-take zero xs s = none
samples-take (suc n) [] s = none
samples-take (suc n) (x ∷ xs) (more h s) = more h (samples-take n xs s)

samples-append : (xs ys : List ℤ) → Samples xs → Samples ys → Samples (xs ++ ys)
samples-append [] ys s t = t
samples-append (x ∷ xs) ys (more h s) t = more h (samples-append xs ys s t)

pub samples-reverse : (xs : List ℤ) → Samples xs → Samples (reverse xs)
samples-reverse [] s = none
samples-reverse (x ∷ xs) (more h s) = rw reverse-cons (samples-append (reverse xs) (x ∷ []) (samples-reverse xs s) (more h none))

pub samples-zeros : (n : ℕ) → Samples (replicate n (pos 0))
samples-zeros zero = none
samples-zeros (suc n) = more zero-sample (samples-zeros n)

pub samples-next : (h : List ℤ) (x : ℤ) → Samples h → Sample x → Samples (next h x)
unfolding next
samples-next h x s k = samples-take most_taps (x ∷ h) (more k s)

pub samples-after : (h xs : List ℤ) → Samples h → Samples xs → Samples (history_after h xs)
unfolding history_after
samples-after h [] s k = s
samples-after h (x ∷ xs) s (more a k) = samples-after (next h x) xs (samples-next h x s a) k

-- below and above, a number is held to that end, and that is a clip; else it is a sample
pub below-clips : (y : ℤ) → lt_z y (lowest signed 16) ≡ true → (clips y ≡ true) × (held y ≡ lowest signed 16)
unfolding clips held
below-clips y h =
    let l = lt_z-true y (lowest signed 16) h in
    (ap not ((unfit-iff signed 16 y).1 (λ r. clash_ℤ l r.low)), hold-low signed 16 y l)

pub above-clips : (y : ℤ) → lt_z (highest signed 16) y ≡ true → (clips y ≡ true) × (held y ≡ highest signed 16)
unfolding clips held
above-clips y h =
    let l = lt_z-true (highest signed 16) y h in
    (ap not ((unfit-iff signed 16 y).1 (λ r. clash_ℤ l r.high)), hold-high signed 16 y l)

pub between : (y : ℤ) → lt_z y (lowest signed 16) ≡ false → lt_z (highest signed 16) y ≡ false → Sample y
between y l h = record { low = lt_z-false y (lowest signed 16) l; high = lt_z-false (highest signed 16) y h }

-- a sample is held as it is, with the clip flag clear; what has the flag clear is a sample; and so is what is held
pub sample-keeps : (y : ℤ) → Sample y → (clips y ≡ false) × (held y ≡ y)
unfolding clips held
sample-keeps y r = (ap not (in-fits r), hold-id signed 16 y r)

pub unclipped : (y : ℤ) → clips y ≡ false → Sample y
unfolding clips
unclipped y c = go (fits signed 16 y) refl c
  where
    go : (t : Bool) → fits signed 16 y ≡ t → not t ≡ false → Sample y
    go true e c = fits_in signed 16 y e
    go false e c = absurd (true≢false c)

pub held-sample : (y : ℤ) → Sample (held y)
unfolding held
held-sample y = hold-in signed 16 y
