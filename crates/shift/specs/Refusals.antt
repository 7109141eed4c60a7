-- The refusal and the flag of a count: one law for each way out. Assumes nothing.
use Rattle.std.specs.Prelude.{◌≡◌, refl, ◌⊎◌, false, not, ℕ, ◌≤◌, ◌<◌, leb, ltb}
use Rattle.std.proofs.Common.{inl, inr, arith, lt-ltb, le-ltb, le-leb}
use Rattle.std.proofs.Math.Decide.{dec_le}
use Rattle.std.proofs.lemmas.Bool.{lt-leb}
use Rattle.format.specs.declared.Manner.{Manner}
use Rattle.format.specs.declared.Manner.TheVariants.{Strict, Saturating, Wrapping, Overflowing}
use Rattle.format.specs.Meaning.{fault_of}
use Rattle.exact.specs.Meaning.{or_else}
use Rattle.shift.specs.Meaning.{past_fault, count_fault, count_flag}

-- the number of the first refusal of a shift, 0 for none
abbrev pub shift_fault : Manner → ℕ → ℕ → ℕ → ℕ
shift_fault k w f n = or_else (fault_of w f) (count_fault k w n)

-- the count: within the width, past it, and what the manner makes of that
pub count-in : (k : Manner) (w n : ℕ) → n < w → 0 ≡ count_fault k w n
unfolding count_fault
count-in k w n h = rw (lt-ltb n w h)

pub count_past : (k : Manner) (w n : ℕ) {r : ℕ} → w ≤ n → r ≡ past_fault k → r ≡ count_fault k w n
unfolding count_fault
count_past k w n h e = rw (le-ltb n w h) e

module _ {k : Manner} where
  pub past-refused : (k ≡ Strict) ⊎ (k ≡ Saturating) → 10 ≡ past_fault k
  unfolding past_fault
  past-refused (inl e) = rw e
  past-refused (inr e) = rw e

  pub past-free : (k ≡ Wrapping) ⊎ (k ≡ Overflowing) → 0 ≡ past_fault k
  unfolding past_fault
  past-free (inl e) = rw e
  past-free (inr e) = rw e

-- the flag: of a count past the width, in the overflowing manner alone
module _ {k : Manner} (w n : ℕ) where
  pub flag-overflowing : k ≡ Overflowing → leb w n ≡ count_flag k w n
  unfolding count_flag
  flag-overflowing e = rw e (tests (dec_le w n))
    where
      tests : Dec (w ≤ n) → leb w n ≡ not (ltb n w)
      tests (yes l) = rw (le-leb w n l, le-ltb n w l)
      tests (no l) = let m : n < w = omega arith in rw (lt-leb w n m, lt-ltb n w m)

  pub flag-clear : (k ≡ Overflowing → ⊥) → false ≡ count_flag k w n
  unfolding count_flag
  flag-clear h = go k h
    where
      go : (k : Manner) → (k ≡ Overflowing → ⊥) → false ≡ count_flag k w n
      go Strict h = refl
      go Saturating h = refl
      go Wrapping h = refl
      go Overflowing h = absurd (h refl)
