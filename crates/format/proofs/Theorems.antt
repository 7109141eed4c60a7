-- What is proved of holding and of the four manners, once over the width and the sign: a held number is in the range, and none of the range is
-- nearer; and what each manner makes of a number, whether it fits or not. Assumes nothing.
use Rattle.std.proofs.Math.Path.{◌≡◌, refl, sym}
use Rattle.std.proofs.Common.{subst, inl, inr, arith}
use Rattle.std.specs.Prelude.{◌⊎◌, ◌↔◌, Bool, not, ℕ, ◌≤◌, ◌<◌, ℤ, negsuc, nat_abs, ◌-ℤ◌, ◌≤ℤ◌, ◌<ℤ◌}
use Rattle.std.proofs.Math.Bool.{true, false, cond}
use Rattle.std.proofs.lemmas.Bool.{false≢true}
use Rattle.std.proofs.Math.IntN.{pos}
use Rattle.std.specs.Int.Signed.{≤ℤ_refl}
use Rattle.laws.specs.Diff.{up, sub_out}
use Rattle.laws.specs.Bound.{abs-out, abs-in}
use Rattle.laws.specs.Order.{<ℤ-or-≥ℤ}
use Rattle.laws.specs.Signed.{signed as kit}
use Rattle.laws.specs.Tests.{lt-lt_z, le-lt_z}
use Rattle.format.specs.Meaning.{Sign, unsigned, lowest, highest, fits, hold, wrap, settle, done, refused}
use Rattle.format.specs.declared.Manner.{Manner}
use Rattle.format.specs.declared.Manner.TheVariants.{Strict, Saturating, Wrapping, Overflowing}
use Rattle.format.specs.Theorems.{InRange, lowest-out, highest-out, fits_in, in-fits, unfit-iff, wrap-in, wrap-id}

-- ---- holding: in the range, and no number of the range is nearer
module _ (s : Sign) (w : ℕ) (x : ℤ) where
  -- the three cases of `hold`
  pub hold-low : x <ℤ lowest s w → hold s w x ≡ lowest s w
  unfolding hold
  hold-low h = rw (lt-lt_z h)

  pub hold-high : highest s w <ℤ x → hold s w x ≡ highest s w
  unfolding hold
  hold-high h = rw (le-lt_z (below h), lt-lt_z h)
    where
      below : highest s w <ℤ x → lowest s w ≤ℤ x
      below h = omega (kit, lowest-out s w, highest-out s w)

  pub hold-id : InRange s w x → hold s w x ≡ x
  unfolding hold
  hold-id r = rw (le-lt_z r.low, le-lt_z r.high)

  -- below, above or in the range
  pub sides : (P : ℤ → Type 0) → (x <ℤ lowest s w → P (lowest s w)) → (highest s w <ℤ x → P (highest s w)) → (InRange s w x → P x) → P (hold s w x)
  sides P low high mid = go (<ℤ-or-≥ℤ x (lowest s w)) (<ℤ-or-≥ℤ (highest s w) x)
    where
      go : (x <ℤ lowest s w) ⊎ (lowest s w ≤ℤ x) → (highest s w <ℤ x) ⊎ (x ≤ℤ highest s w) → P (hold s w x)
      go (inl h) k = subst P (sym (hold-low h)) (low h)
      go (inr h) (inl k) = subst P (sym (hold-high k)) (high k)
      go (inr h) (inr k) = subst P (sym (hold-id (record { low = h; high = k }))) (mid (record { low = h; high = k }))

  pub hold-in : InRange s w (hold s w x)
  hold-in =
      sides (InRange s w)
      (λ h. record { low = ≤ℤ_refl (lowest s w); high = omega (kit, lowest-out s w, highest-out s w) })
      (λ h. record { low = omega (kit, lowest-out s w, highest-out s w); high = ≤ℤ_refl (highest s w) })
      (λ r. r)

  pub hold-nearest : (y : ℤ) → InRange s w y → nat_abs (x -ℤ hold s w x) ≤ nat_abs (x -ℤ y)
  hold-nearest y r =
      sides (λ (h : ℤ). nat_abs (x -ℤ h) ≤ nat_abs (x -ℤ y))
      (λ h. abs-in (x -ℤ lowest s w) (omega (kit, r.low, sub_out x (lowest s w), sub_out x y, abs-out (x -ℤ y)))
      (omega (kit, r.low, sub_out x (lowest s w), sub_out x y, abs-out (x -ℤ y))))
      (λ h. abs-in (x -ℤ highest s w) (omega (kit, r.high, sub_out x (highest s w), sub_out x y, abs-out (x -ℤ y)))
      (omega (kit, r.high, sub_out x (highest s w), sub_out x y, abs-out (x -ℤ y))))
      (λ h. abs-in (x -ℤ x) (omega (kit, sub_out x x)) (omega (kit, sub_out x x)))

-- ---- the manners
module _ (s : Sign) (w : ℕ) (x : ℤ) where
  -- a number that fits is answered as it is, in each manner, with the flag clear
  pub settle-fits : (k : Manner) → 0 < w → InRange s w x → settle k s w x ≡ done x false
  unfolding settle
  settle-fits Strict h r = rw (in-fits r)
  settle-fits Saturating h r = rw (hold-id s w x r)
  settle-fits Wrapping h r = rw (wrap-id s w h x r)
  settle-fits Overflowing h r = rw (wrap-id s w h x r, in-fits r)

  -- strict refuses with 10 exactly if the number does not fit
  pub strict-refuses : (settle Strict s w x ≡ refused 10) ↔ (InRange s w x → ⊥)
  unfolding settle
  strict-refuses = (λ e. (unfit-iff s w x).0 (go (fits s w x) e), λ h. rw ((unfit-iff s w x).1 h))
    where
      go : (t : Bool) → cond t (done x false) (refused 10) ≡ refused 10 → t ≡ false
      go true e = let z : ◌≡◌ {A = ℕ} 0 1 = cc in absurd (omega arith)
      go false e = refl

  -- the flag is set exactly if the number does not fit
  pub flag-set : (settle Overflowing s w x ≡ done (wrap s w x) true) ↔ (InRange s w x → ⊥)
  unfolding settle
  flag-set = (λ e. (unfit-iff s w x).0 (go (fits s w x) e), λ h. rw ((unfit-iff s w x).1 h))
    where
      go : (t : Bool) → done (wrap s w x) (not t) ≡ done (wrap s w x) true → t ≡ false
      go true e = let z : ◌≡◌ {A = Bool} false true = cc in absurd (false≢true z)
      go false e = refl

-- what is done is in the range; so an unsigned outcome is no negative number, and `unsigned_answer` loses nothing
pub settle-in : (k : Manner) (s : Sign) (w : ℕ) (x y : ℤ) (f : Bool) → 0 < w → settle k s w x ≡ done y f → InRange s w y
unfolding settle
settle-in Strict s w x y f h e = go (fits s w x) refl e
  where
    go : (t : Bool) → fits s w x ≡ t → cond t (done x false) (refused 10) ≡ done y f → InRange s w y
    go true g e = let z : x ≡ y = cc in subst (InRange s w) z (fits_in s w x g)
    go false g e = let z : ◌≡◌ {A = ℕ} 0 1 = cc in absurd (omega arith)
settle-in Saturating s w x y f h e = let z : hold s w x ≡ y = cc in subst (InRange s w) z (hold-in s w x)
settle-in Wrapping s w x y f h e = let z : wrap s w x ≡ y = cc in subst (InRange s w) z (wrap-in s w h x)
settle-in Overflowing s w x y f h e = let z : wrap s w x ≡ y = cc in subst (InRange s w) z (wrap-in s w h x)

pub settle-unsigned : (k : Manner) (w : ℕ) (x y : ℤ) (f : Bool) → 0 < w → settle k unsigned w x ≡ done y f → pos (up y) ≡ y
unfolding lowest
settle-unsigned k w x y f h e = go y (settle-in k unsigned w x y f h e).low
  where
    go : (y : ℤ) → lowest unsigned w ≤ℤ y → pos (up y) ≡ y
    go (pos n) l = refl
    go (negsuc n) l = absurd (omega kit)
