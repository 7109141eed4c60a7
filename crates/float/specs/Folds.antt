-- Two words that a format settles as it does a number of any size: the lower word is the number's, and the upper one is 0 exactly if the number is
-- below 2^64. Assumes nothing.
use Rattle.std.specs.Prelude.{◌≡◌, Bool, true, ℕ, ◌+◌, ◌*◌, ◌/◌, ◌%◌, ◌^◌}
use Rattle.std.proofs.Common.{sym, ap, ◌∙◌}
use Rattle.std.proofs.Math.Arith.{digits_div, digits_mod}
use Rattle.wide.specs.declared.Wide.{Wide}
use Rattle.wide.specs.Meaning.{Words}
use Rattle.format.specs.declared.Manner.{Manner}
use Rattle.format.specs.Meaning.{Sign, is_width, settle, with_sign, exact}
use Rattle.format.proofs.Far.{settle-words}

-- n is `whole` times 2^64 and the lower word; of `whole` the upper word tells whether it is 0
pub record Folds (n : ℕ) (r : Wide) : Type 0 where
  pub whole : ℕ
  pub same : n ≡ whole * 2 ^ 64 + r.low
  pub none : r.high ≡ 0 → whole ≡ 0
  pub some : whole ≡ 0 → r.high ≡ 0

module _ (s : Sign) (w : ℕ) (neg : Bool) {n : ℕ} {r : Wide} (width : is_width w ≡ true) (folds : Folds n r) where
  pub settle-folds : (k : Manner) → settle k s w (exact neg r.high r.low) ≡ settle k s w (with_sign neg n)
  settle-folds k =
      settle-words s w neg r.low width k r.high folds.whole folds.none folds.some
      ∙ ap (λ (m : ℕ). settle k s w (with_sign neg m)) (sym folds.same)

-- what it settles: the lower word, and of the upper one whether it is 0
pub folds-settled : {n : ℕ} {r s : Wide} → Words r → Words s → Folds n r → Folds n s
    → (r.low ≡ s.low) × ((r.high ≡ 0 → s.high ≡ 0) × (s.high ≡ 0 → r.high ≡ 0))
folds-settled {n} {r} {s} v w f g =
    let same : f.whole * 2 ^ 64 + r.low ≡ g.whole * 2 ^ 64 + s.low = sym f.same ∙ g.same in
    let whole : f.whole ≡ g.whole = sym (digits_div f.whole v.low) ∙ ap (λ (m : ℕ). m / 2 ^ 64) same ∙ digits_div g.whole w.low in
    let low : r.low ≡ s.low = sym (digits_mod f.whole v.low) ∙ ap (λ (m : ℕ). m % 2 ^ 64) same ∙ digits_mod g.whole w.low in
    (low, (λ z. g.some (sym whole ∙ f.none z), λ z. f.some (whole ∙ g.none z)))
