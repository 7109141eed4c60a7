-- The three answers of the entry: the format's refusal, 32, and the logarithm. Assumes nothing.
use Rattle.std.specs.Prelude.{◌≡◌, refl, true, false, Ok, Err, ℕ, zero, suc, ◌<◌, ℤ, pos, negsuc, nat_abs}
use Rattle.std.proofs.Common.{sym, ◌∙◌, arith, le-ltb}
use Rattle.std.proofs.lemmas.Bool.{false≢true}
use Rattle.std.specs.Int.Signed.{lt_z}
use Rattle.format.specs.Meaning.{Kind, signed_kind, answered, done, refused, fault_of, LetsThrough, named}
use Rattle.format.specs.Answer.{pass-answered}
use Rattle.format.specs.declared.refusal.Refusal.TheVariants.{NotPositive}
use Rattle.log10.specs.Meaning.{log10_of, positive_only, log10_outcome}
use Rattle.log10.specs.Promise.{Log10}

-- what the tests of a raw found: it is not above zero, or it is, and then its size is the number
pub below : (x : ℤ) (f : ℕ) → lt_z x (pos 0) ≡ true → positive_only x f ≡ refused 32
unfolding positive_only
below (pos n) f h = absurd (false≢true (sym (le-ltb n 0 (omega arith)) ∙ h))
below (negsuc n) f h = refl

pub zero-size : (x : ℤ) (f : ℕ) → nat_abs x ≡ 0 → positive_only x f ≡ refused 32
unfolding positive_only
zero-size (pos zero) f h = refl
zero-size (pos (suc n)) f h = absurd (omega arith)
zero-size (negsuc n) f h = absurd (omega arith)

pub above : (x : ℤ) (f : ℕ) {m : ℕ} → lt_z x (pos 0) ≡ false → m ≡ nat_abs x → 0 < m → positive_only x f ≡ done (log10_of m f) false
unfolding positive_only
above (pos zero) f h e l = absurd (omega arith)
above (pos (suc n)) f h e l = rw e
above (negsuc n) f h e l = absurd (false≢true (sym h))

-- and the answers behind the format's refusals
module _ {A : Type 0} (c : Kind A) (raw : A) {w f v g : ℕ} (o : LetsThrough (fault_of w f) w f v g) where
  pub refused-number : positive_only (c.number_of raw) f ≡ refused 32 → Log10 c raw w f (Err NotPositive)
  unfolding log10_outcome answered named
  refused-number e = pass-answered signed_kind (fault_of w f) (positive_only (c.number_of raw) f) o.free (rw e refl)

  pub answered-number : {m : ℕ} {k : ℤ} → lt_z (c.number_of raw) (pos 0) ≡ false → m ≡ nat_abs (c.number_of raw) → 0 < m → k ≡ log10_of m g
      → Log10 c raw w f (Ok (record { raw = k; flag = false }))
  unfolding log10_outcome answered
  answered-number h e l k =
      pass-answered signed_kind (fault_of w f) (positive_only (c.number_of raw) f) o.free (rw (above (c.number_of raw) f h e l, k, o.frac_is) refl)
