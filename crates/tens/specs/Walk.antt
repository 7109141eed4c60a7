-- The comparison and the first digits as the code walks a body: one digit more, from what `next_digit` promises. Assumes nothing.
use Rattle.std.specs.Prelude.{◌≡◌, refl, ℕ, zero, suc, ◌+◌, ◌-◌, ◌*◌, ◌^◌, ◌≤◌, ◌<◌, drop, get_or, replicate}
use Rattle.std.proofs.Common.{sym, ap, ap₂, ◌∙◌, subst, le_of_lt, lt_of_lt_of_le, arith, lit<, drop-drop}
use mathlib.Core.List.{List, [], ◌∷◌, ◌++◌}
use Rattle.std.proofs.Math.Nat.{pow-le-pow_right}
use Rattle.wide.specs.declared.Wide.{Wide}
use Rattle.wide.specs.Meaning.{value_of, Words}
use Rattle.wide.specs.Theorems.{value-high, value_low}
use Rattle.std.specs.declared.cmp.Ordering.{Ordering}
use Rattle.std.specs.declared.cmp.Ordering.TheVariants.{Less, Equal, Greater}
use Rattle.std.specs.Ordering.{MatchOrdering, nat_cmp, ordering_then}
use Rattle.std.specs.Cmp.{ranks, nat_cmp_is}
use Rattle.tens.specs.Digits.{Small, small-zeros}
use Rattle.tens.specs.Order.{order_ten}
use Rattle.tens.specs.Prefix.{lead_from, lead_of, lead-below, lead-two}

-- ---- the comparison
first-decides : (a b : ℕ) (p : Ordering) → (a ≡ b → ⊥) → ordering_then (nat_cmp a b) p ≡ nat_cmp a b
first-decides a b p differ = go (nat_cmp a b) (ranks a b)
  where
    go : (o : Ordering) → MatchOrdering o (a < b) (a ≡ b) (b < a) → ordering_then o p ≡ o
    go Less h = refl
    go Equal h = absurd (differ h)
    go Greater h = refl

-- w is what is left of ten times the middle, ds are the digits that are left, o the answer
module _ {ds : List ℕ} (w : Wide) {o : Ordering} (inv : order_ten ds (value_of w) (2 ^ 64) ≡ o) where
  module _ (words : Words w) (d : ℕ) (es : List ℕ) (next : ds ≡ d ∷ es) where
    walk_step : ordering_then (nat_cmp d w.high) (order_ten es (w.low * 10) (2 ^ 64)) ≡ o
    unfolding order_ten
    walk_step =
        ap₂ (λ (h l : ℕ). ordering_then (nat_cmp d h) (order_ten es (l * 10) (2 ^ 64))) (sym (value-high words)) (sym (value_low words))
        ∙ sym (ap (λ (l : List ℕ). order_ten l (value_of w) (2 ^ 64)) next) ∙ inv

    pub walk-stop : (d ≡ w.high → ⊥) → nat_cmp d w.high ≡ o
    walk-stop differ = sym (first-decides d w.high (order_ten es (w.low * 10) (2 ^ 64)) differ) ∙ walk_step

    pub walk-next : {v : ℕ} → d ≡ w.high → v ≡ w.low * 10 → order_ten es v (2 ^ 64) ≡ o
    walk-next same e =
        ap (λ (n : ℕ). order_ten es n (2 ^ 64)) e
        ∙ ap (λ (s : Ordering). ordering_then s (order_ten es (w.low * 10) (2 ^ 64))) (nat_cmp_is d w.high Equal same)
        ∙ walk_step

  pub walk-end : {r : Ordering} → ds ≡ [] → r ≡ nat_cmp 0 (value_of w) → r ≡ o
  unfolding order_ten
  walk-end e f = f ∙ sym (ap (λ (l : List ℕ). order_ten l (value_of w) (2 ^ 64)) e) ∙ inv

-- ---- some digits as one number, with zeros after the last
lead-step : (k : ℕ) (ds : List ℕ) (v : ℕ) → 0 < k → lead_from k ds v ≡ lead_from (k - 1) (drop 1 ds) (v * 10 + get_or ds 0 0)
unfolding lead_from
lead-step zero ds v h = absurd (omega arith)
lead-step (suc k) [] v h =
    let e : k ≡ suc k - 1 = omega arith in
    let f : v * 10 ≡ v * 10 + 0 = omega arith in
    ap₂ (λ (j w : ℕ). lead_from j [] w) e f
lead-step (suc k) (d ∷ ds) v h =
    let e : k ≡ suc k - 1 = omega arith in
    ap (λ (j : ℕ). lead_from j ds (v * 10 + d)) e

lead-grows : (k : ℕ) (ds : List ℕ) (v : ℕ) → v ≤ lead_from k ds v
unfolding lead_from
lead-grows zero ds v = omega arith
lead-grows (suc k) [] v = omega (arith, lead-grows k [] (v * 10))
lead-grows (suc k) (d ∷ ds) v = omega (arith, lead-grows k ds (v * 10 + d))

-- k of them are read, d is the next, and w is the whole
module _ (ds : List ℕ) (count k v : ℕ) {d : ℕ} (digit : d ≡ get_or (drop k ds) 0 0) (some : k < count) where
  pub group-next : {w : ℕ} → lead_from (count - k) (drop k ds) v ≡ w → lead_from (count - (k + 1)) (drop (k + 1) ds) (v * 10 + d) ≡ w
  group-next inv =
      let e : count - (k + 1) ≡ count - k - 1 = omega arith in
      ap (λ (j : ℕ). lead_from j (drop (k + 1) ds) (v * 10 + d)) e
      ∙ ap₂ (λ (es : List ℕ) (c : ℕ). lead_from (count - k - 1) es (v * 10 + c)) (sym (drop-drop 1 k ds)) digit
      ∙ sym (lead-step (count - k) (drop k ds) v (omega arith)) ∙ inv

  pub group-fits : count ≤ 19 → Small ds → lead_from (count - k) (drop k ds) v ≡ lead_of count ds → v * 10 + d < 2 ^ 64
  group-fits few small inv =
      let whole : lead_of count ds < 1 * 10 ^ count = lead-below count ds 0 small in
      let most : 10 ^ count ≤ 10 ^ 19 = pow-le-pow_right {n = 10} (omega arith) few in
      omega (arith, lead-grows (count - (k + 1)) (drop (k + 1) ds) (v * 10 + d), group-next inv)

pub group-end : (ds : List ℕ) (count k v : ℕ) → count ≤ k → lead_from (count - k) (drop k ds) v ≡ lead_of count ds → v ≡ lead_of count ds
unfolding lead_from
group-end ds count k v h inv =
    let e : count - k ≡ 0 = omega arith in
    sym (ap (λ (j : ℕ). lead_from j (drop k ds) v) e) ∙ inv

-- two groups, the first after the zeros in front: 27 digits, in the words of the code
pub lead-fits : (z : ℕ) (ds : List ℕ) → Small ds → lead_of 27 (replicate z 0 ++ ds) < 10 ^ 27
lead-fits z ds s = omega (arith, lead-below 27 (replicate z 0 ++ ds) 0 (small-zeros z ds s))

module _ (ds : List ℕ) (z : ℕ) {a b m : ℕ} (few : z ≤ 19) (high : a ≡ lead_of (19 - z) ds) (low : b ≡ lead_of 8 (drop (19 - z) ds)) (product : m ≡ a * 10 ^ 8) where
  pub group-two : m + (0 * 2 ^ 64 + b) ≡ lead_of 27 (replicate z 0 ++ ds)
  group-two =
      let sum : m + (0 * 2 ^ 64 + b) ≡ a * 10 ^ 8 + b = omega arith in
      sum ∙ ap₂ (λ (m n : ℕ). m * 10 ^ 8 + n) high low ∙ sym (lead-two z ds few)

  pub group-sum : Small ds → m + (0 * 2 ^ 64 + b) < 2 ^ 128
  group-sum s = lt-trans-lit (subst (λ (n : ℕ). n < 10 ^ 27) (sym group-two) (lead-fits z ds s))
    where
      lt-trans-lit : {n : ℕ} → n < 10 ^ 27 → n < 2 ^ 128
      lt-trans-lit h = lt_of_lt_of_le h (le_of_lt (lit< {m = 10 ^ 27} {n = 2 ^ 128} tt))
