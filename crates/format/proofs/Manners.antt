-- What settles a number in the strict, saturating and overflowing manner, from what the code finds of it: its magnitude where that is within the limit
-- on its side. Assumes nothing.
use Rattle.std.specs.Prelude.{◌≡◌, Option, Some, None, Bool, true, false, ℕ, ◌+◌, ◌*◌, ◌^◌, ◌≤◌, min, leb, cond, is_none, ℤ}
use Rattle.std.proofs.Math.Path.{refl, sym, ap, ap₂}
use Rattle.std.proofs.Common.{◌∙◌, arith}
use Rattle.std.proofs.Math.Bool.{not}
use Rattle.std.specs.Option.{unwrap_or}
use borrow.Author.Tests.{leb-true, leb-false}
use Rattle.format.specs.Meaning.{Sign, fits, wrap, settle, with_sign, exact, done, refused}
use Rattle.format.specs.Theorems.{limit}
use Rattle.format.specs.Place.{within_of}
use Rattle.format.proofs.Limits.{fits-place, hold-place}
use Rattle.format.specs.declared.Manner.TheVariants.{Strict, Saturating, Overflowing}

-- what it says of the magnitude n
module _ (n l : ℕ) where
  some-says : {m : ℕ} (t : Bool) → leb n l ≡ t → Some m ≡ cond t (Some n) None → (leb n l ≡ true) × (n ≤ l) × (m ≡ n)
  some-says true e q = (e, leb-true n l e, cc)
  some-says false e q = cc

  none-says : (t : Bool) → leb n l ≡ t → ◌≡◌ {A = Option ℕ} None (cond t (Some n) None) → (leb n l ≡ false) × (l ≤ n)
  none-says true e q = cc
  none-says false e q = (e, omega (arith, leb-false n l e))

module _ (s : Sign) (w : ℕ) (neg : Bool) (high low : ℕ) {l : ℕ} (end : l ≡ limit s w neg) {o : Option ℕ} (p : o ≡ within_of high low l) where
  some-of : {m : ℕ} → o ≡ Some m → (leb (high * 2 ^ 64 + low) l ≡ true) × (high * 2 ^ 64 + low ≤ l) × (m ≡ high * 2 ^ 64 + low)
  unfolding within_of
  some-of e = some-says (high * 2 ^ 64 + low) l _ refl (sym e ∙ p)

  none-of : o ≡ None → (leb (high * 2 ^ 64 + low) l ≡ false) × (l ≤ high * 2 ^ 64 + low)
  unfolding within_of
  none-of e = none-says (high * 2 ^ 64 + low) l _ refl (sym e ∙ p)

  tested : {t : Bool} → leb (high * 2 ^ 64 + low) l ≡ t → fits s w (exact neg high low) ≡ t
  tested e = fits-place s w neg (high * 2 ^ 64 + low) ∙ ap (leb (high * 2 ^ 64 + low)) (sym end) ∙ e

  -- within the limit it is held as it is; a raw of it is asked for with a magnitude within the limit
  pub some-within : {m : ℕ} → o ≡ Some m → m ≤ limit s w neg
  some-within e = let q = some-of e in omega (arith, q.1, q.2, end)

  pub strict-done : {m : ℕ} → o ≡ Some m → settle Strict s w (exact neg high low) ≡ done (with_sign neg m) false
  unfolding settle
  strict-done e = let q = some-of e in rw (tested q.0, q.2)

  pub strict-over : o ≡ None → settle Strict s w (exact neg high low) ≡ refused 10
  unfolding settle
  strict-over e = rw (tested (none-of e).0)

  pub saturating-done : {m : ℕ} → m ≡ min (high * 2 ^ 64 + low) l → settle Saturating s w (exact neg high low) ≡ done (with_sign neg m) false
  unfolding settle
  saturating-done e =
      ap (λ (y : ℤ). done y false) (hold-place s w neg (high * 2 ^ 64 + low) ∙ ap (with_sign neg) (ap (min (high * 2 ^ 64 + low)) (sym end) ∙ sym e))

  pub overflowing-done : {y : ℤ} → y ≡ wrap s w (exact neg high low) → settle Overflowing s w (exact neg high low) ≡ done y (is_none o)
  unfolding settle
  overflowing-done e = ap₂ done (sym e) (flag-of o refl)
    where
      flag-of : (q : Option ℕ) → o ≡ q → not (fits s w (exact neg high low)) ≡ is_none o
      flag-of (Some m) h = rw (h, tested (some-of h).0)
      flag-of None h = rw (h, tested (none-of h).0)

  -- what the code takes where there is none is the limit, so the magnitude is held to it
  pub held-of : {m : ℕ} → m ≡ unwrap_or o l → m ≡ min (high * 2 ^ 64 + low) l
  held-of e = go o refl e
    where
      go : (q : Option ℕ) → o ≡ q → {m : ℕ} → m ≡ unwrap_or q l → m ≡ min (high * 2 ^ 64 + low) l
      go (Some k) h e = let q = some-of h in omega (arith, e, q.1, q.2)
      go None h e = omega (arith, e, (none-of h).1)
