-- The fraction as one of 64 bits, and its text behind another. Assumes nothing.
use mathlib.Core.Path.{◌≡◌, refl, sym, ap, ap₂, ◌∙◌}
use mathlib.Core.Bool.{Bool, true, false, cond}
use mathlib.Core.List.{List, [], ◌∷◌, ◌++◌, map, append_assoc, append-nil}
use Prim.Native.Nat.{ℕ, ◌+◌, ◌-◌, ◌*◌, ◌%◌, ◌^◌, ◌≤◌, ◌<◌}
use native.Mathlib.Nat.{mul-pos}
use native.Mathlib.Omega.{arith}
use lib.Dec.{eqb}
use lib.Pow.{pow_pos, pow-add}
use borrow.Author.Tests.{eqb-true, eqb-false, ne_eqb}
use Rattle.decimal.specs.Meaning.{byte_of, fraction_by, fraction_digits, fraction_text}
use Rattle.decimal.specs.Digits.{mod-scale, fraction-scale, ends-start, ends-scale}
use Rattle.decimal.specs.Layout.{Ends, word_text}
use Rattle.format.specs.Meaning.{is_width}
use Rattle.format.specs.Fault.{width-bounds}

-- ---- what a format's fraction bits are at most
pub frac-word : {w f : ℕ} → is_width w ≡ true → f ≤ w → f ≤ 64
frac-word {w} h l = omega (arith, width-bounds w h)

-- ---- the fraction as a fraction of 64 bits
full : (f : ℕ) → f ≤ 64 → 2 ^ f * 2 ^ (64 - f) ≡ 2 ^ 64
full f h = let e : f + (64 - f) ≡ 64 = omega arith in sym (pow-add 2 f (64 - f)) ∙ ap (λ (k : ℕ). 2 ^ k) e

pub scaled-some : (m f : ℕ) → f ≤ 64 → m * 2 ^ (64 - f) % 2 ^ 64 ≡ m % 2 ^ f * 2 ^ (64 - f)
scaled-some m f h = ap (λ (v : ℕ). m * 2 ^ (64 - f) % v) (sym (full f h)) ∙ mod-scale m (2 ^ f) (2 ^ (64 - f)) (pow_pos (64 - f))

pub scaled-ends : (n f : ℕ) {x : ℕ} → f ≤ 64 → x ≡ n * 2 ^ (64 - f) → Ends f (2 ^ 64) x
scaled-ends n f h e = rw e (rw (full f h) at (ends-scale f (2 ^ f) n (2 ^ (64 - f)) (ends-start f n)))

pub scaled-text : (n f : ℕ) {x : ℕ} → f ≤ 64 → x ≡ n * 2 ^ (64 - f) → word_text f x ≡ fraction_text f n
unfolding word_text fraction_text fraction_digits
scaled-text n f {x} h e = go (eqb n 0) refl
  where
    digits : fraction_by (2 ^ 64) f x ≡ fraction_by (2 ^ f) f n
    digits = ap₂ (λ (m y : ℕ). fraction_by m f y) (sym (full f h)) e ∙ fraction-scale (2 ^ f) f n (2 ^ (64 - f)) (pow_pos (64 - f))

    go : (t : Bool) → eqb n 0 ≡ t → cond (eqb x 0) [] (46 ∷ map byte_of (fraction_by (2 ^ 64) f x)) ≡ cond t [] (46 ∷ map byte_of (fraction_by (2 ^ f) f n))
    go true z = let none : x ≡ 0 = e ∙ ap (λ (v : ℕ). v * 2 ^ (64 - f)) (eqb-true n 0 z) ∙ omega arith in rw none
    go false z =
        let some : 0 < n * 2 ^ (64 - f) = mul-pos (omega (arith, eqb-false n 0 z)) (pow_pos (64 - f)) in
        rw (ne_eqb x 0 (omega arith), digits)

module _ (f n : ℕ) (text : List ℕ) where
  pub word_none : n ≡ 0 → text ≡ text ++ word_text f n
  unfolding word_text
  word_none e = rw e (sym (append-nil text))

  -- the point, and then the digits
  pub word_some : {left : List ℕ} → (n ≡ 0 → ⊥) → left ≡ text ++ (46 ∷ []) ++ map byte_of (fraction_by (2 ^ 64) f n) → left ≡ text ++ word_text f n
  unfolding word_text
  word_some h e = rw (ne_eqb n 0 h) (e ∙ append_assoc text (46 ∷ []) (map byte_of (fraction_by (2 ^ 64) f n)))

-- ---- whole part and fraction
pub joined : {before behind text : List ℕ} (wh fr : List ℕ) → before ≡ [] → behind ≡ before ++ fr → text ≡ wh ++ behind → text ≡ wh ++ fr
joined wh fr e f w = w ∙ ap (λ (t : List ℕ). wh ++ t) (f ∙ ap (λ (t : List ℕ). t ++ fr) e)
