-- A layout with a byte more at either end, or with one less: what its text becomes. Assumes nothing.
use Rattle.std.proofs.Common.{◌≡◌, ℕ, suc, ◌+◌, ◌-◌, ◌≤◌, ◌<◌, List, [], ◌∷◌, ◌++◌, length, take, drop, get_or, refl, sym, ap, ap₂, ◌∙◌, arith, append-nil, length-append, length-drop, drop-cons, drop-set-lt, take-suc-set}
use Rattle.std.proofs.Math.ListN.{set, length-set}
use Rattle.std.proofs.Math.Seq.{take-suc, get_or-set_same}
use Rattle.std.proofs.lemmas.List.{drop-set-add, get_or-drop}
use Rattle.std.proofs.lemmas.Bool.{ne_eqb}
use Rattle.decimal.specs.Laid.{unless_zero}

-- two lists with a last element
last-same : (s t : List ℕ) (x y : ℕ) → s ++ (x ∷ []) ≡ t ++ (y ∷ []) → (s ≡ t) × (x ≡ y)
last-same [] [] x y e = (refl, cc)
last-same [] (d ∷ t) x y e = absurd (omega (arith, ap length e, length-append t (y ∷ [])))
last-same (c ∷ s) [] x y e = absurd (omega (arith, ap length e, length-append s (x ∷ [])))
last-same (c ∷ s) (d ∷ t) x y e =
    let head : c ≡ d = cc in
    let tail : s ++ (x ∷ []) ≡ t ++ (y ∷ []) = cc in
    let same = last-same s t x y tail in
    (ap₂ (λ (a : ℕ) (l : List ℕ). a ∷ l) head same.0, same.1)

module _ (places : List ℕ) (start end : ℕ) (o : start ≤ end) where
  pub prepended : (v : ℕ) → 0 < start → end ≤ length places
      → take (end - (start - 1)) (drop (start - 1) (set places (start - 1) v)) ≡ v ∷ take (end - start) (drop start places)
  prepended v h l =
      let i = start - 1 in
      let low : i < length places = omega arith in
      let s : suc i ≡ start = omega arith in
      let size : end - i ≡ suc (end - start) = omega arith in
      let first : drop i (set places i v) ≡ v ∷ drop start places =
      drop-cons (set places i v) i 0 (rw length-set low)
      ∙ ap₂ (λ (x : ℕ) (r : List ℕ). x ∷ r) (get_or-set_same places i v 0 low) (drop-set-lt (suc i) places i v (omega arith) ∙ ap (λ (k : ℕ). drop k places) s) in
      ap₂ (λ (k : ℕ) (r : List ℕ). take k r) size first

  pub appended : (v : ℕ) → end < length places
      → take (end + 1 - start) (drop start (set places end v)) ≡ take (end - start) (drop start places) ++ (v ∷ [])
  appended v l =
      let k = end - start in
      let s : end ≡ start + k = omega arith in
      let size : end + 1 - start ≡ suc k = omega arith in
      ap₂ (λ (n j : ℕ). take n (drop start (set places j v))) size s
      ∙ ap (take (suc k)) (drop-set-add start places k v)
      ∙ take-suc-set (drop start places) k v (omega (arith, length-drop start places))

  -- the last byte
  module _ (h : start < end) (l : end ≤ length places) (t : List ℕ) (b : ℕ) (e : take (end - start) (drop start places) ≡ t ++ (b ∷ [])) where
    parted : (take (end - 1 - start) (drop start places) ≡ t) × (get_or places (end - 1) 0 ≡ b)
    parted =
        let k = end - 1 - start in
        let size : end - start ≡ suc k = omega arith in
        let at : start + k ≡ end - 1 = omega arith in
        let both = last-same (take k (drop start places)) t (get_or (drop start places) k 0) b
        (sym (take-suc (drop start places) k 0 (omega (arith, length-drop start places))) ∙ ap (λ (n : ℕ). take n (drop start places)) (sym size) ∙ e) in
        (both.0, ap (λ (n : ℕ). get_or places n 0) (sym at) ∙ sym (get_or-drop start places k 0) ∙ both.1)

    pub dropped : get_or places (end - 1) 0 ≡ 48 → take (end - 1 - start) (drop start places) ≡ t ++ unless_zero b
    unfolding unless_zero
    dropped z = let is : b ≡ 48 = sym parted.1 ∙ z in rw is (parted.0 ∙ sym (append-nil t))

    pub kept : (get_or places (end - 1) 0 ≡ 48 → ⊥) → take (end - start) (drop start places) ≡ t ++ unless_zero b
    unfolding unless_zero
    kept n = rw (ne_eqb b 48 (λ z. n (parted.1 ∙ z))) e
