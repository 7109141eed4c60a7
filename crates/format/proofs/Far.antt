-- A number past 2^64 in any format: past the limit on its side, so held to the end of its sign, and for the raw that its bits give only the number
-- modulo 2^64 counts. So of the words above the lowest a format asks only whether they are 0 (`settle-words`). Assumes nothing.
use Rattle.std.specs.Prelude.{◌≡◌, refl, ◌≢◌, Bool, true, false, not, cond, ℕ, ◌+◌, ◌*◌, ◌^◌, ◌≤◌, ◌<◌, ℤ}
use Rattle.std.proofs.Math.Path.{sym, ap, ap₂}
use Rattle.std.proofs.Common.{◌∙◌, arith, pow_mono, pow_pos}
use Rattle.std.proofs.Math.Decide.{dec_le}
use Rattle.std.proofs.lemmas.Bool.{lt-leb}
use Rattle.laws.specs.Signed.{signed as kit}
use Rattle.format.specs.declared.Manner.{Manner}
use Rattle.format.specs.declared.Manner.TheVariants.{Strict, Saturating, Wrapping, Overflowing}
use Rattle.format.specs.Meaning.{Sign, signed, unsigned, lowest, highest, fits, hold, wrap, settle, with_sign, exact, done}
use Rattle.format.specs.Meaning.{is_width}
use Rattle.format.specs.Fault.{width-bounds, half-word}
use Rattle.format.specs.Theorems.{limit, lowest-out, highest-out}
use Rattle.format.specs.Place.{sign-out}
use Rattle.format.proofs.Limits.{fits-place, hold-place}
use Rattle.format.specs.Settle.{bits-signed, bits-unsigned}

-- ---- every number past 2^64 is past the limit on its side
pub limit-word : (s : Sign) (w : ℕ) (neg : Bool) → w ≤ 64 → limit s w neg < 2 ^ 64
unfolding limit
limit-word signed w true h = omega (arith, half-word w h)
limit-word signed w false h = omega (arith, half-word w h)
limit-word unsigned w true h = omega arith
limit-word unsigned w false h = omega (arith, pow_mono h, pow_pos w)

module _ (s : Sign) (w : ℕ) (neg : Bool) (n : ℕ) (word : w ≤ 64) (far : 2 ^ 64 ≤ n) where
  pub far-unfit : fits s w (with_sign neg n) ≡ false
  far-unfit = fits-place s w neg n ∙ lt-leb n (limit s w neg) (omega (arith, limit-word s w neg word))

  pub far-held : hold s w (with_sign neg n) ≡ with_sign neg (limit s w neg)
  far-held = hold-place s w neg n ∙ ap (with_sign neg) (omega (arith, limit-word s w neg word))

  -- held, it is the end of its sign
  pub far-end : hold s w (with_sign neg n) ≡ cond neg (lowest s w) (highest s w)
  far-end = far-held ∙ go neg
    where
      go : (neg : Bool) → with_sign neg (limit s w neg) ≡ cond neg (lowest s w) (highest s w)
      go true = omega (kit, sign-out true (limit s w true), lowest-out s w)
      go false = omega (kit, sign-out false (limit s w false), highest-out s w)

-- ---- two numbers that are the same modulo 2^64
module _ (s : Sign) (w : ℕ) (neg : Bool) (low : ℕ) (width : is_width w ≡ true) where
  past : (n : ℕ) → 1 ≤ n → fits s w (exact neg n low) ≡ false
  past n h = far-unfit s w neg (n * 2 ^ 64 + low) (width-bounds w width).1 (omega arith)

  held : (n : ℕ) → 1 ≤ n → hold s w (exact neg n low) ≡ with_sign neg (limit s w neg)
  held n h = far-held s w neg (n * 2 ^ 64 + low) (width-bounds w width).1 (omega arith)

  -- the raw that the bits give is the same
  wrap-words : (g h : ℕ) → wrap s w (exact neg g low) ≡ wrap s w (exact neg h low)
  wrap-words g h = go s
    where
      go : (s : Sign) → wrap s w (exact neg g low) ≡ wrap s w (exact neg h low)
      go signed = sym (bits-signed w neg g low width refl) ∙ bits-signed w neg h low width refl
      go unsigned = sym (bits-unsigned w neg g low width refl) ∙ bits-unsigned w neg h low width refl

  -- where both are past 2^64, a format makes the same of them
  settle-far : (k : Manner) (g h : ℕ) → 1 ≤ g → 1 ≤ h → settle k s w (exact neg g low) ≡ settle k s w (exact neg h low)
  unfolding settle
  settle-far Strict g h a b = rw (past g a, past h b)
  settle-far Saturating g h a b = ap (λ (z : ℤ). done z false) (held g a ∙ sym (held h b))
  settle-far Wrapping g h a b = ap (λ (z : ℤ). done z false) (wrap-words g h)
  settle-far Overflowing g h a b = ap₂ (λ (z : ℤ) (f : Bool). done z (not f)) (wrap-words g h) (past g a ∙ sym (past h b))

  -- and below it they are one number
  pub settle-words : (k : Manner) (g h : ℕ) → (g ≡ 0 → h ≡ 0) → (h ≡ 0 → g ≡ 0) → settle k s w (exact neg g low) ≡ settle k s w (exact neg h low)
  settle-words k g h to from = go (dec_le 1 g)
    where
      go : Dec (1 ≤ g) → settle k s w (exact neg g low) ≡ settle k s w (exact neg h low)
      go (yes a) =
          let some : h ≢ 0 = λ z. omega (arith, from z) in
          settle-far k g h a (omega arith)
      go (no a) =
          let none : g ≡ 0 = omega arith in
          ap (λ (n : ℕ). settle k s w (exact neg n low)) (none ∙ sym (to none))
