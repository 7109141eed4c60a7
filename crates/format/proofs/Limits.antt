-- A number as a sign and a magnitude is in the range exactly if the magnitude is within the limit on its side, and is held to that limit.
-- Assumes nothing.
use Rattle.std.specs.Prelude.{◌≡◌, Bool, cond, ℕ, ◌≤◌, ◌<◌, min, leb}
use Rattle.std.proofs.Math.Path.{ap}
use Rattle.std.proofs.Common.{sym, ◌∙◌, arith}
use Rattle.std.proofs.Math.Bool.{true, false}
use Rattle.std.proofs.Math.Decide.{dec_le}
use borrow.Author.Tests.{le-leb, lt-leb}
use Rattle.laws.specs.Diff.{up, dn}
use Rattle.laws.specs.Signed.{signed as kit}
use Rattle.format.specs.Meaning.{Sign, fits, hold, with_sign}
use Rattle.format.specs.Theorems.{InRange, limit, lowest-out, highest-out, in-fits}
use Rattle.format.specs.Theorems.{unfit-iff}
use Rattle.format.proofs.Theorems.{hold-low, hold-high, hold-id}
use Rattle.format.specs.Place.{sign-out}

-- within the limit on its side, or past it
module _ (s : Sign) (w : ℕ) (neg : Bool) (m : ℕ) where
  pub within : m ≤ limit s w neg → InRange s w (with_sign neg m)
  within h = go neg h (sign-out neg m)
    where
      go : (neg : Bool) → m ≤ limit s w neg → (up (with_sign neg m) ≡ cond neg 0 m) × (dn (with_sign neg m) ≡ cond neg m 0) → InRange s w (with_sign neg m)
      go true h o = record { low = omega (kit, o, lowest-out s w); high = omega (kit, o, highest-out s w) }
      go false h o = record { low = omega (kit, o, lowest-out s w); high = omega (kit, o, highest-out s w) }

  pub fits-place : fits s w (with_sign neg m) ≡ leb m (limit s w neg)
  fits-place = pick (dec_le m (limit s w neg))
    where
      past : (neg : Bool) → limit s w neg < m → (up (with_sign neg m) ≡ cond neg 0 m) × (dn (with_sign neg m) ≡ cond neg m 0) → InRange s w (with_sign neg m) → ⊥
      past true h o r = omega (kit, o, r.low, lowest-out s w)
      past false h o r = omega (kit, o, r.high, highest-out s w)

      pick : Dec (m ≤ limit s w neg) → fits s w (with_sign neg m) ≡ leb m (limit s w neg)
      pick (yes h) = in-fits (within h) ∙ sym (le-leb m (limit s w neg) h)
      pick (no h) =
          let far : limit s w neg < m = omega arith in
          (unfit-iff s w (with_sign neg m)).1 (past neg far (sign-out neg m)) ∙ sym (lt-leb m (limit s w neg) far)

  pub hold-place : hold s w (with_sign neg m) ≡ with_sign neg (min m (limit s w neg))
  hold-place = pick (dec_le m (limit s w neg))
    where
      to_end : (neg : Bool) → limit s w neg < m → hold s w (with_sign neg m) ≡ with_sign neg (limit s w neg)
      to_end true h =
          hold-low s w (with_sign true m) (omega (kit, sign-out true m, lowest-out s w))
          ∙ omega (kit, sign-out true (limit s w true), lowest-out s w)
      to_end false h =
          hold-high s w (with_sign false m) (omega (kit, sign-out false m, highest-out s w))
          ∙ omega (kit, sign-out false (limit s w false), highest-out s w)

      pick : Dec (m ≤ limit s w neg) → hold s w (with_sign neg m) ≡ with_sign neg (min m (limit s w neg))
      pick (yes h) =
          let e : m ≡ min m (limit s w neg) = omega arith in
          hold-id s w (with_sign neg m) (within h) ∙ ap (with_sign neg) e
      pick (no h) =
          let e : limit s w neg ≡ min m (limit s w neg) = omega arith in
          to_end neg (omega arith) ∙ ap (with_sign neg) e
