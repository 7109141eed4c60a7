-- No samples reach further than the driving ones: of a term, of the sum, of the level. Both ways at once: `Within way a b` is a ≤ b on the way high
-- and b ≤ a on the way low. Of the rounding only that it keeps the order is used. Assumes nothing.
use Rattle.std.specs.Prelude.{◌≡◌, refl, Bool, true, false, List, [], ◌∷◌, ℕ, zero, suc, ℤ, pos, negsuc, ◌+ℤ◌, ◌*ℤ◌, ◌≤ℤ◌, ◌<ℤ◌}
use Rattle.std.proofs.Common.{sym, ◌∙◌, mul-le-mul_left}
use Rattle.std.proofs.lemmas.Bool.{false≢true}
use Rattle.std.proofs.Math.IntN.{*ℤ_comm}
use Rattle.std.specs.Int.Signed.{≤ℤ_refl}
use Rattle.laws.specs.Diff.{le_out, add-out, up-mul, dn-mul, orders}
use Rattle.laws.specs.Order.{+ℤ-mono, mul-out, *ℤ-mono-pos}
use Rattle.laws.specs.Signed.{signed}
use Rattle.laws.specs.Tests.{lt_z-true, lt-lt_z}
use Rattle.format.specs.Meaning.{lowest, highest}
use Rattle.filter.specs.Meaning.{sum_of, rounded, level_of}
use Rattle.filter.specs.Range.{Sample, zero-sample, Samples, more}
use Rattle.filter.proofs.Rounding.{rounded-mono}
use Rattle.headroom.specs.declared.peak.Way.{Way}
use Rattle.headroom.specs.declared.peak.Way.TheVariants.{High, Low}
use Rattle.headroom.specs.Meaning.{by_sign, driven_of, driving, passes, clips_way}

pub data Within : Way → ℤ → ℤ → Type 0 where
  upward : {a b : ℤ} → a ≤ℤ b → Within High a b
  downward : {a b : ℤ} → b ≤ℤ a → Within Low a b

pub within-refl : (way : Way) (a : ℤ) → Within way a a
within-refl High a = upward (≤ℤ_refl a)
within-refl Low a = downward (≤ℤ_refl a)

within-add : {way : Way} {a b c d : ℤ} → Within way a b → Within way c d → Within way (a +ℤ c) (b +ℤ d)
within-add (upward h) (upward k) = upward (+ℤ-mono h k)
within-add (downward h) (downward k) = downward (+ℤ-mono h k)

within-rounded : {way : Way} {a b : ℤ} → Within way a b → Within way (rounded a) (rounded b)
within-rounded (upward h) = upward (rounded-mono h)
within-rounded (downward h) = downward (rounded-mono h)

pub within-passes : {way : Way} {a b : ℤ} → Within way a b → passes way a ≡ true → passes way b ≡ true
unfolding passes lowest highest
within-passes {a = a} {b = b} (upward h) p =
    let k = lt_z-true (pos 32767) a p in
    let l : pos 32767 <ℤ b = omega signed in
    lt-lt_z l
within-passes {a = a} {b = b} (downward h) p =
    let k = lt_z-true a (negsuc 32767) p in
    let l : b <ℤ negsuc 32767 = omega signed in
    lt-lt_z l

-- a product and the order: a factor that is not negative keeps it, one below 0 turns it round
times-pos : (n : ℕ) {a b : ℤ} → a ≤ℤ b → (pos n *ℤ a) ≤ℤ (pos n *ℤ b)
times-pos n {a} {b} h = rw (*ℤ_comm (pos n) a, *ℤ_comm (pos n) b) (*ℤ-mono-pos n h)

times-neg : (n : ℕ) {a b : ℤ} → a ≤ℤ b → (negsuc n *ℤ b) ≤ℤ (negsuc n *ℤ a)
times-neg n {a} {b} h =
    let k = mul-le-mul_left (suc n) (le_out h) in
    omega (orders, k, up-mul (negsuc n) a, dn-mul (negsuc n) a, up-mul (negsuc n) b, dn-mul (negsuc n) b)

times_zero : (a b : ℤ) → (pos 0 *ℤ a) ≤ℤ (pos 0 *ℤ b)
times_zero a b = omega (orders, up-mul (pos 0) a, dn-mul (pos 0) a, up-mul (pos 0) b, dn-mul (pos 0) b)

-- which end a tap takes, by its sign
pub by-above : (n : ℕ) (a b : ℤ) → by_sign (pos (suc n)) a b ≡ a
unfolding by_sign
by-above n a b =
    let l : pos 0 <ℤ pos (suc n) = omega signed in
    rw (lt-lt_z l)

pub by-below : (n : ℕ) (a b : ℤ) → by_sign (negsuc n) a b ≡ b
unfolding by_sign
by-below n a b = refl

pub by_zero : (a b : ℤ) → by_sign (pos 0) a b ≡ pos 0
unfolding by_sign
by_zero a b = refl

-- a term is furthest at the end that drives it
pub term-within : (way : Way) (t s : ℤ) → Sample s → Within way (t *ℤ s) (t *ℤ driven_of way t)
unfolding driven_of lowest highest
term-within High (pos zero) s h = upward (times_zero s (driven_of High (pos 0)))
term-within High (pos (suc n)) s h = rw by-above (upward (times-pos (suc n) h.high))
term-within High (negsuc n) s h = rw by-below (upward (times-neg n h.low))
term-within Low (pos zero) s h = downward (times_zero (driven_of Low (pos 0)) s)
term-within Low (pos (suc n)) s h = rw by-above (downward (times-pos (suc n) h.low))
term-within Low (negsuc n) s h = rw by-below (downward (times-neg n h.high))

-- so is the sum, and so is the level
no-sum : (taps : List ℤ) → sum_of taps [] ≡ pos 0
unfolding sum_of
no-sum [] = refl
no-sum (t ∷ ts) = refl

no-samples : (t : ℤ) (taps : List ℤ) → t *ℤ pos 0 +ℤ sum_of taps [] ≡ pos 0
no-samples t taps = rw (no-sum taps) (omega (orders, mul-out t 0, add-out (t *ℤ pos 0) (pos 0)))

pub sum-within : (way : Way) (taps h : List ℤ) → Samples h → Within way (sum_of taps h) (sum_of taps (driving way taps))
unfolding sum_of
sum-within way [] h s = within-refl way (pos 0)
sum-within way (t ∷ ts) [] s = rw (no-samples t ts) at (within-add (term-within way t (pos 0) zero-sample) (sum-within way ts [] s))
sum-within way (t ∷ ts) (x ∷ h) (more k s) = within-add (term-within way t x k) (sum-within way ts h s)

pub level-within : (way : Way) (taps h : List ℤ) → Samples h → Within way (level_of taps h) (level_of taps (driving way taps))
unfolding level_of
level-within way taps h s = within-rounded (sum-within way taps h s)

-- where the driving samples do not clip that way, none do
pub never-passes : (way : Way) (taps h : List ℤ) → Samples h → clips_way way taps ≡ false → passes way (level_of taps h) ≡ false
unfolding clips_way
never-passes way taps h s e = go (passes way (level_of taps h)) refl
  where
    go : (t : Bool) → passes way (level_of taps h) ≡ t → t ≡ false
    go true p = absurd (false≢true (sym e ∙ within-passes (level-within way taps h s) p))
    go false p = refl
