-- The parts of a decimal number, folded: zeros after the digits, a fraction beside a whole number, and the digits cut at the point. Assumes nothing.
use Rattle.std.specs.Prelude.{◌≡◌, Bool, true, false, List, ◌++◌, ℕ, zero, suc, ◌+◌, ◌-◌, ◌*◌, ◌^◌, ◌≤◌, ◌<◌, length, take, drop, replicate}
use Rattle.std.proofs.Common.{sym, ap, ap₂, ◌∙◌, pow-suc, mul-pos, add-one, arith, length-append, pow_pos}
use Rattle.std.proofs.Math.Nat.{one-le-pow}
use Rattle.std.proofs.Math.Decide.{dec_le}
use Rattle.std.proofs.lemmas.List.{length-replicate}
use Rattle.std.proofs.Math.Seq.{take-length}
use Rattle.laws.specs.Nearest.{nearest_even}
use Rattle.laws.specs.Powers.{power-sub, ten-power}
use Rattle.grammar.specs.Meaning.{raw_of}
use Rattle.grammar.specs.Naturals.{nat_of}
use Rattle.fold.specs.declared.Folded.{Folded}
use Rattle.std.specs.declared.cmp.Ordering.{Ordering}
use Rattle.fold.specs.Round.{round_by}
use Rattle.fold.specs.Fold.{fold_of, folded_value, fold_same, fold_step, fold-add, fold-times, fold-round}
use Rattle.tens.specs.Digits.{Small, small-zeros, small-drop, nat-zeros}
use Rattle.tens.specs.Order.{order_ten}
use Rattle.tens.specs.Prefix.{first_raw, lead_of, first-rounds, twenty-zeros}
use Rattle.tens.specs.Point.{decimal, point-past, point-up, point-down, point-split, point-length}

-- ---- zeros after the digits
pub lift-far : (v z : ℕ) → 64 ≤ z → fold_of (v * 2 ^ 64) ≡ fold_of (v * 10 ^ z)
lift-far v z far = go (dec_le 1 v)
  where
    more : ℕ
    more = 5 ^ z * 2 ^ (z - 64)

    split : 10 ^ z ≡ more * 2 ^ 64
    split = ten-power z ∙ omega (arith, ap (λ (n : ℕ). 5 ^ z * n) (power-sub 64 z far))

    some : 0 < more
    some = mul-pos (one-le-pow z 5 (omega arith)) (pow_pos (z - 64))

    go : Dec (1 ≤ v) → fold_of (v * 2 ^ 64) ≡ fold_of (v * 10 ^ z)
    go (no h) =
        let none : v ≡ 0 = omega arith in
        let same : v * 2 ^ 64 ≡ v * 10 ^ z = ap (λ (n : ℕ). n * 2 ^ 64) none ∙ sym (ap (λ (n : ℕ). n * 10 ^ z) none ∙ omega arith) in
        ap fold_of same
    go (yes h) =
        let e : v * 10 ^ z ≡ v * (more - 1) * 2 ^ 64 + v * 2 ^ 64 = ap (λ (n : ℕ). v * n) split ∙ times v more some in
        sym (fold_same (v * 10 ^ z) (v * 2 ^ 64) (v * (more - 1)) (omega arith) e)
      where
        times : (v m : ℕ) → 0 < m → v * (m * 2 ^ 64) ≡ v * (m - 1) * 2 ^ 64 + v * 2 ^ 64
        times v zero h = absurd (omega arith)
        times v (suc m) h =
            let e : suc m - 1 ≡ m = omega arith in
            rw e (omega arith)

-- one zero more
pub lift-next : (v k : ℕ) {x y : Folded} → x ≡ fold_of (v * 10 ^ k) → y ≡ fold_of (folded_value x * 10 + 0) → y ≡ fold_of (v * 10 ^ (k + 1))
lift-next v k e f =
    let p : v * 10 ^ k * 10 + 0 ≡ v * 10 ^ (k + 1) = rw (add-one, pow-suc) (omega arith) in
    f ∙ ap (λ (x : Folded). fold_of (folded_value x * 10 + 0)) e ∙ fold_step (v * 10 ^ k) 10 0 (omega arith) ∙ ap fold_of p

pub past-folded : (ds : List ℕ) (k z f : ℕ) {x y r : Folded} → k ≡ length ds → x ≡ fold_of (nat_of 10 (take k ds)) → y ≡ fold_of (folded_value x * 10 ^ z)
    → r ≡ fold_of (folded_value y * 2 ^ f)
    → r ≡ fold_of (nat_of 10 ds * 10 ^ z * 2 ^ f)
past-folded ds k z f l e g h =
    let n = nat_of 10 ds in
    let all : nat_of 10 (take k ds) ≡ n = ap (λ (i : ℕ). nat_of 10 (take i ds)) l ∙ ap (nat_of 10) (take-length ds) in
    h
    ∙ ap (λ (y : Folded). fold_of (folded_value y * 2 ^ f))
    (g ∙ ap (λ (x : Folded). fold_of (folded_value x * 10 ^ z)) (e ∙ ap fold_of all) ∙ fold-times n (10 ^ z) (one-le-pow z 10 (omega arith)))
    ∙ fold-times (n * 10 ^ z) (2 ^ f) (pow_pos f)

-- ---- a whole number i and the fraction 0.ds beside it, times 2^f, to the nearest
abbrev pub beside_of : ℕ → List ℕ → ℕ → ℕ
beside_of i ds f = nearest_even ((i * 10 ^ length ds + nat_of 10 ds) * 2 ^ f) (10 ^ length ds)

module _ (ds : List ℕ) (small : Small ds) (f : ℕ) (few : f ≤ 64) where
  -- the steps of the code
  pub beside-folded : (v q : ℕ) {o : Ordering} {x y r : Folded} → q ≡ first_raw f (lead_of 27 ds) → o ≡ order_ten ds ((q * 10 + 5) * 2 ^ (64 - f)) (2 ^ 64)
      → x ≡ fold_of (v * 2 ^ f) → y ≡ fold_of (folded_value x + q) → r ≡ fold_of (round_by o (folded_value y)) → r ≡ fold_of (beside_of v ds f)
  beside-folded v q {o} {y = y} e g h k l =
      l
      ∙ ap (λ (y : Folded). fold_of (round_by o (folded_value y))) (k ∙ ap (λ (x : Folded). fold_of (folded_value x + q)) h ∙ fold-add (v * 2 ^ f) q)
      ∙ fold-round (v * 2 ^ f + q) o
      ∙ ap (λ (w : Ordering). fold_of (round_by w (v * 2 ^ f + q))) g
      ∙ ap (λ (n : ℕ). fold_of (round_by (order_ten ds ((n * 10 + 5) * 2 ^ (64 - f)) (2 ^ 64)) (v * 2 ^ f + n))) e
      ∙ ap fold_of (sym (first-rounds ds small f few v))

  -- what is folded stands for the whole number
  pub beside-whole : (i : ℕ) → fold_of (beside_of (folded_value (fold_of i)) ds f) ≡ fold_of (beside_of i ds f)
  beside-whole i =
      let q = first_raw f (lead_of 27 ds) in
      let o = order_ten ds ((q * 10 + 5) * 2 ^ (64 - f)) (2 ^ 64) in
      ap fold_of (first-rounds ds small f few (folded_value (fold_of i)))
      ∙ sym (fold-round (folded_value (fold_of i) * 2 ^ f + q) o)
      ∙ ap (λ (x : Folded). fold_of (round_by o (folded_value x))) (fold_step i (2 ^ f) q (pow_pos f))
      ∙ fold-round (i * 2 ^ f + q) o
      ∙ ap fold_of (sym (first-rounds ds small f few i))

-- ---- the digits cut at the point, p of them after it
module _ (ds : List ℕ) (small : Small ds) (f : ℕ) (few : f ≤ 64) (p : ℕ) where
  cut_at : {es : List ℕ} {x r : Folded} → p ≤ length ds → es ≡ drop (length ds - p) ds → x ≡ fold_of (nat_of 10 (take (length ds - p) ds))
      → r ≡ fold_of (beside_of (folded_value x) es f) → r ≡ fold_of (nearest_even (nat_of 10 ds * 2 ^ f) (10 ^ p))
  cut_at {es} h e g l =
      let fs = drop (length ds - p) ds in
      let i = nat_of 10 (take (length ds - p) ds) in
      l
      ∙ ap₂ (λ (x : Folded) (gs : List ℕ). fold_of (beside_of (folded_value x) gs f)) g e
      ∙ beside-whole fs (small-drop (length ds - p) ds small) f few i
      ∙ ap (λ (n : ℕ). fold_of (nearest_even (n * 2 ^ f) (10 ^ length fs))) (sym (point-split ds p h))
      ∙ ap (λ (n : ℕ). fold_of (nearest_even (nat_of 10 ds * 2 ^ f) (10 ^ n))) (point-length ds p h)

  pub below-some : (n : ℕ) {es : List ℕ} {x r : Folded} → n ≡ length ds → p ≤ n → es ≡ drop (n - p) ds → x ≡ fold_of (nat_of 10 (take (n - p) ds))
      → r ≡ fold_of (beside_of (folded_value x) es f) → r ≡ fold_of (nearest_even (nat_of 10 ds * 2 ^ f) (10 ^ p))
  below-some n k h e g l =
      let m : n - p ≡ length ds - p = ap (λ (i : ℕ). i - p) k in
      cut_at (omega arith) (e ∙ ap (λ (i : ℕ). drop i ds) m) (g ∙ ap (λ (i : ℕ). fold_of (nat_of 10 (take i ds))) m) l

  pub below_none : {x r : Folded} (z : ℕ) → z + length ds ≡ p → x ≡ fold_of 0 → r ≡ fold_of (beside_of (folded_value x) (replicate z 0 ++ ds) f)
      → r ≡ fold_of (nearest_even (nat_of 10 ds * 2 ^ f) (10 ^ p))
  below_none z e g l =
      let gs = replicate z 0 ++ ds in
      let size : length gs ≡ p = length-append (replicate z 0) ds ∙ ap (λ (n : ℕ). n + length ds) (length-replicate {A = ℕ} z 0) ∙ e in
      let number : 0 * 10 ^ length gs + nat_of 10 gs ≡ nat_of 10 ds = omega (arith, nat-zeros z ds) in
      l
      ∙ ap (λ (x : Folded). fold_of (beside_of (folded_value x) gs f)) g
      ∙ beside-whole gs (small-zeros z ds small) f few 0
      ∙ ap₂ (λ (n k : ℕ). fold_of (nearest_even (n * 2 ^ f) (10 ^ k))) number size

  pub below-far : {r : Folded} (z : ℕ) → z + length ds ≡ p → 20 ≤ z → r ≡ fold_of 0 → r ≡ fold_of (nearest_even (nat_of 10 ds * 2 ^ f) (10 ^ p))
  below-far z e h g = g ∙ ap fold_of (sym (ap (λ (k : ℕ). nearest_even (nat_of 10 ds * 2 ^ f) (10 ^ k)) (sym e) ∙ twenty-zeros z f ds small few h))

-- ---- the whole: where the exponent puts the point
module _ (f : ℕ) (ds : List ℕ) (after e : ℕ) {down : Bool} {r : Folded} where
  pub tens-down : down ≡ true → r ≡ fold_of (nearest_even (nat_of 10 ds * 2 ^ f) (10 ^ (after + e))) → r ≡ fold_of (raw_of 10 f (decimal ds after down e))
  tens-down t h = h ∙ ap fold_of (sym (point-down f ds after e)) ∙ ap (λ (b : Bool). fold_of (raw_of 10 f (decimal ds after b e))) (sym t)

  pub tens-past : down ≡ false → after ≤ e → r ≡ fold_of (nat_of 10 ds * 10 ^ (e - after) * 2 ^ f) → r ≡ fold_of (raw_of 10 f (decimal ds after down e))
  tens-past t l h = h ∙ ap fold_of (sym (point-past f ds after e l)) ∙ ap (λ (b : Bool). fold_of (raw_of 10 f (decimal ds after b e))) (sym t)

  pub tens-up : down ≡ false → e < after → r ≡ fold_of (nearest_even (nat_of 10 ds * 2 ^ f) (10 ^ (after - e))) → r ≡ fold_of (raw_of 10 f (decimal ds after down e))
  tens-up t l h = h ∙ ap fold_of (sym (point-up f ds after e (omega arith))) ∙ ap (λ (b : Bool). fold_of (raw_of 10 f (decimal ds after b e))) (sym t)
