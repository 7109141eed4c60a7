-- The first digits of a decimal fraction, as one number, and what they tell of the fraction times 2^f: with the first 27 it is known to less than
-- one and a half, and less than that is told from the rest by one comparison. Assumes nothing.
use Rattle.std.specs.Prelude.{◌≡◌, refl, List, [], ◌∷◌, ◌++◌, drop, replicate}
use Rattle.std.proofs.Common.{sym, ap, ◌∙◌, pow-suc, div-lt_iff_lt-mul, zero-add, lt_of_lt_of_le, lit<, pow_pos, pow-add, shl_exact}
use Prim.Native.Nat.{ℕ, zero, suc, ◌+◌, ◌-◌, ◌*◌, ◌/◌, ◌%◌, ◌^◌, ◌≤◌, ◌<◌}
use Rattle.std.proofs.Math.Nat.{div-add-mod', mod-lt, mul-le-mul_right, mul-lt-mul_of_pos_right, pow-zero, div-div-eq-div-mul, mul-div-mul_right, one-le-pow}
use native.Mathlib.Omega.{arith}
use Rattle.std.proofs.Math.ListN.{length}
use Rattle.std.proofs.Math.Pow.{pow_mono}
use Rattle.laws.specs.Nearest.{nearest_even, nearest-none}
use Rattle.laws.specs.Powers.{power-sub}
use Rattle.grammar.specs.Meaning.{nat_from}
use Rattle.grammar.specs.Naturals.{nat_of, nat_from-shift}
use Rattle.std.specs.declared.cmp.Ordering.{Ordering}
use Rattle.std.specs.Ordering.{nat_cmp}
use Rattle.tens.specs.Digits.{Small, nat-below}
use Rattle.tens.specs.Order.{cmp-scale, order_ten, order-ten}
use Rattle.fold.specs.Round.{round_by}
use Rattle.tens.specs.Middle.{middle-beside}

-- the first k digits, with zeros after the last
unfoldable pub lead_from : ℕ → List ℕ → ℕ → ℕ
lead_from zero ds v = v
lead_from (suc k) [] v = lead_from k [] (v * 10)
lead_from (suc k) (d ∷ ds) v = lead_from k ds (v * 10 + d)

abbrev pub lead_of : ℕ → List ℕ → ℕ
lead_of k ds = lead_from k ds 0

-- ---- they are the fraction cut after k places
pub lead_low : (k : ℕ) (ds : List ℕ) (v : ℕ) → lead_from k ds v * 10 ^ length ds ≤ nat_from 10 ds v * 10 ^ k
unfolding lead_from nat_from
lead_low zero ds v = rw pow-zero (omega (arith, nat_from-shift 10 ds v))
lead_low (suc k) [] v = rw pow-suc (omega (arith, lead_low k [] (v * 10)))
lead_low (suc k) (d ∷ ds) v = rw (pow-suc 10 (length ds), pow-suc 10 k) (omega (arith, lead_low k ds (v * 10 + d)))

pub lead_high : (k : ℕ) (ds : List ℕ) (v : ℕ) → Small ds → nat_from 10 ds v * 10 ^ k < suc (lead_from k ds v) * 10 ^ length ds
unfolding lead_from nat_from
lead_high zero ds v s = rw pow-zero (omega (arith, nat_from-shift 10 ds v, nat-below ds s))
lead_high (suc k) [] v s = rw pow-suc (omega (arith, lead_high k [] (v * 10) tt))
lead_high (suc k) (d ∷ ds) v s = rw (pow-suc 10 (length ds), pow-suc 10 k) (omega (arith, lead_high k ds (v * 10 + d) s.1))

pub lead-below : (k : ℕ) (ds : List ℕ) (v : ℕ) → Small ds → lead_from k ds v < suc v * 10 ^ k
unfolding lead_from
lead-below zero ds v s = rw pow-zero (omega arith)
lead-below (suc k) [] v s = rw pow-suc (omega (arith, lead-below k [] (v * 10) tt, pow-ten k))
  where
    pow-ten : (k : ℕ) → 0 < 10 ^ k
    pow-ten k = one-le-pow k 10 (omega arith)
lead-below (suc k) (d ∷ ds) v s =
    let more : suc (v * 10 + d) * 10 ^ k ≤ (suc v * 10) * 10 ^ k = mul-le-mul_right (10 ^ k) (omega arith) in
    rw pow-suc (omega (arith, lead-below k ds (v * 10 + d) s.1))

-- ---- zeros in front, and one group after another
suc-add : (j k : ℕ) → suc j + k ≡ suc (j + k)
suc-add j k = omega arith

drop-none : (j : ℕ) → drop {A = ℕ} j [] ≡ []
drop-none zero = refl
drop-none (suc j) = refl

pub lead-zeros : (z k : ℕ) (ds : List ℕ) → lead_of (z + k) (replicate z 0 ++ ds) ≡ lead_of k ds
unfolding lead_from
lead-zeros zero k ds = ap (λ (n : ℕ). lead_of n ds) (zero-add k)
lead-zeros (suc z) k ds = ap (λ (n : ℕ). lead_of n (replicate (suc z) 0 ++ ds)) (suc-add z k) ∙ lead-zeros z k ds

pub lead-more : (j k : ℕ) (ds : List ℕ) (v : ℕ) → lead_from (j + k) ds v ≡ lead_from k (drop j ds) (lead_from j ds v)
unfolding lead_from
lead-more zero k ds v = ap (λ (n : ℕ). lead_from n ds v) (zero-add k)
lead-more (suc j) k [] v =
    ap (λ (n : ℕ). lead_from n [] v) (suc-add j k) ∙ lead-more j k [] (v * 10) ∙ ap (λ (l : List ℕ). lead_from k l (lead_from j [] (v * 10))) (drop-none j)
lead-more (suc j) k (d ∷ ds) v = ap (λ (n : ℕ). lead_from n (d ∷ ds) v) (suc-add j k) ∙ lead-more j k ds (v * 10 + d)

pub lead-shift : (k : ℕ) (ds : List ℕ) (v : ℕ) → lead_from k ds v ≡ v * 10 ^ k + lead_of k ds
unfolding lead_from
lead-shift zero ds v = rw pow-zero (omega arith)
lead-shift (suc k) [] v = rw pow-suc (omega (arith, lead-shift k [] (v * 10)))
lead-shift (suc k) (d ∷ ds) v = rw pow-suc (omega (arith, lead-shift k ds (v * 10 + d), lead-shift k ds (0 * 10 + d)))

-- 27 digits as the code reads them: 19, z of them the zeros in front, and 8
pub lead-two : (z : ℕ) (ds : List ℕ) → z ≤ 19 → lead_of 27 (replicate z 0 ++ ds) ≡ lead_of (19 - z) ds * 10 ^ 8 + lead_of 8 (drop (19 - z) ds)
lead-two z ds h =
    let places : 27 ≡ z + (19 - z + 8) = omega arith in
    ap (λ (n : ℕ). lead_of n (replicate z 0 ++ ds)) places
    ∙ lead-zeros z (19 - z + 8) ds
    ∙ lead-more (19 - z) 8 ds 0
    ∙ lead-shift 8 (drop (19 - z) ds) (lead_of (19 - z) ds)

-- ---- the quotient: two shifts and one division, since 10^27 is 2^26 times 2 x 5^27
unfoldable pub first_raw : ℕ → ℕ → ℕ
first_raw f val = val * 2 ^ f / 10 ^ 27

abbrev pub divisor : ℕ
divisor = 14901161193847656250

pub first-up : (f val : ℕ) → 26 ≤ f → val * 2 ^ (f - 26) / divisor ≡ first_raw f val
unfolding first_raw
first-up f val h =
    sym (mul-div-mul_right {m = 2 ^ 26} (val * 2 ^ (f - 26)) divisor (lit< tt))
    ∙ ap (λ (n : ℕ). n / 10 ^ 27) (omega (arith, ap (λ (y : ℕ). val * y) (power-sub 26 f h)))

pub first-down : (f val : ℕ) → f < 26 → val / 2 ^ (26 - f) / divisor ≡ first_raw f val
unfolding first_raw
first-down f val h =
    let whole : 2 ^ (26 - f) * divisor * 2 ^ f ≡ 10 ^ 27 = omega (arith, ap (λ (y : ℕ). y * divisor) (power-sub f 26 (omega arith))) in
    div-div-eq-div-mul val (2 ^ (26 - f)) divisor
    ∙ sym (mul-div-mul_right {m = 2 ^ f} val (2 ^ (26 - f) * divisor) (pow_pos f))
    ∙ ap (λ (n : ℕ). val * 2 ^ f / n) whole

pub first_below : (f val : ℕ) → val < 10 ^ 27 → first_raw f val < 2 ^ f
unfolding first_raw
first_below f val h = (div-lt_iff_lt-mul (lit< tt)).1 (omega (arith, mul-lt-mul_of_pos_right h (pow_pos f)))

-- the same from the words of the code, h and l those of the quotient
small_word : (h l v : ℕ) → h * 2 ^ 64 + l ≡ v → v < 2 ^ 64 → l ≡ v
small_word h l v e b = omega arith

module _ (f val : ℕ) (few : f ≤ 64) (less : val < 10 ^ 27) (x d h l : ℕ) (quotient : h * 2 ^ 64 + l ≡ x / d) (same : d ≡ divisor) where
  low_word : x / divisor ≡ first_raw f val → l ≡ first_raw f val
  low_word e = small_word h l (first_raw f val) (quotient ∙ ap (λ (n : ℕ). x / n) same ∙ e) (lt_of_lt_of_le (first_below f val less) (pow_mono few))

  pub first-up-words : 26 ≤ f → x ≡ val * 2 ^ (f - 26) % 2 ^ 128 → l ≡ first_raw f val
  first-up-words k e =
      let fits : val < 2 ^ 90 = omega arith in
      low_word (ap (λ (n : ℕ). n / divisor) (e ∙ shl_exact 90 (f - 26) 128 fits (omega arith)) ∙ first-up f val k)

  pub first-down-words : f < 26 → x ≡ val / 2 ^ (26 - f) → l ≡ first_raw f val
  first-down-words k e = low_word (ap (λ (n : ℕ). n / divisor) e ∙ first-down f val k)

-- ---- the fraction G times 2^f, and the whole part i beside it
module _ (ds : List ℕ) (small : Small ds) (f : ℕ) (few : f ≤ 64) where
  abbrev pub first : ℕ
  first = first_raw f (lead_of 27 ds)

  pub first-low : first * 10 ^ length ds ≤ nat_of 10 ds * 2 ^ f
  unfolding first_raw
  first-low =
      let val = lead_of 27 ds in
      let cut : val * 10 ^ length ds * 2 ^ f ≤ nat_of 10 ds * 10 ^ 27 * 2 ^ f = mul-le-mul_right (2 ^ f) (lead_low 27 ds 0) in
      let q = val * 2 ^ f / 10 ^ 27 in
      let part : q * 10 ^ 27 * 10 ^ length ds ≤ val * 2 ^ f * 10 ^ length ds = mul-le-mul_right (10 ^ length ds)
      (omega (arith, div-add-mod' (val * 2 ^ f) (10 ^ 27))) in
      omega arith

  pub first-high : nat_of 10 ds * 2 ^ f * 2 < (first * 2 + 3) * 10 ^ length ds
  unfolding first_raw
  first-high =
      let val = lead_of 27 ds in
      let p = 10 ^ length ds in
      let q = val * 2 ^ f / 10 ^ 27 in
      let cut : nat_of 10 ds * 10 ^ 27 * 2 ^ f < suc val * p * 2 ^ f = mul-lt-mul_of_pos_right (lead_high 27 ds 0 small) (pow_pos f) in
      let bits : 2 ^ f ≤ 2 ^ 64 = pow_mono few in
      let near : suc val * 2 ^ f * 2 ≤ (q * 2 + 3) * 10 ^ 27 = omega
      (arith, div-add-mod' (val * 2 ^ f) (10 ^ 27), mod-lt (val * 2 ^ f) {m = 10 ^ 27} (lit< tt)) in
      let far : suc val * 2 ^ f * 2 * p ≤ (q * 2 + 3) * 10 ^ 27 * p = mul-le-mul_right p near in
      omega arith

  -- the middle above it, as the digits' comparison takes it
  pub first-middle : order_ten ds ((first * 10 + 5) * 2 ^ (64 - f)) (2 ^ 64) ≡ nat_cmp (nat_of 10 ds * 2 ^ f * 2) ((first * 2 + 1) * 10 ^ length ds)
  first-middle =
      let q = first in
      let unit = 2 ^ (64 - f) * 5 in
      let left : nat_of 10 ds * 2 ^ 64 * 10 ≡ nat_of 10 ds * 2 ^ f * 2 * unit = omega (arith, ap (λ (y : ℕ). nat_of 10 ds * y) (power-sub f 64 few)) in
      let right : (q * 10 + 5) * 2 ^ (64 - f) * 10 ^ length ds ≡ (q * 2 + 1) * 10 ^ length ds * unit = omega arith in
      order-ten ds ((q * 10 + 5) * 2 ^ (64 - f)) (2 ^ 64) (lit< tt) small
      ∙ ap (λ (x : ℕ). nat_cmp x ((q * 10 + 5) * 2 ^ (64 - f) * 10 ^ length ds)) left
      ∙ ap (λ (y : ℕ). nat_cmp (nat_of 10 ds * 2 ^ f * 2 * unit) y) right
      ∙ cmp-scale unit (nat_of 10 ds * 2 ^ f * 2) ((q * 2 + 1) * 10 ^ length ds) (omega (arith, pow_pos (64 - f)))

  -- so they round it
  pub first-rounds : (i : ℕ) → nearest_even ((i * 10 ^ length ds + nat_of 10 ds) * 2 ^ f) (10 ^ length ds)
      ≡ round_by (order_ten ds ((first * 10 + 5) * 2 ^ (64 - f)) (2 ^ 64)) (i * 2 ^ f + first)
  first-rounds i =
      let p = 10 ^ length ds in
      let apart : (i * p + nat_of 10 ds) * 2 ^ f ≡ i * 2 ^ f * p + nat_of 10 ds * 2 ^ f = omega arith in
      ap (λ (n : ℕ). nearest_even n p) apart
      ∙ middle-beside (i * 2 ^ f) (nat_of 10 ds * 2 ^ f) p first (one-le-pow (length ds) 10 (omega arith)) first-low first-high
      ∙ ap (λ (o : Ordering). round_by o (i * 2 ^ f + first)) (sym first-middle)

-- ---- twenty zeros in front: less than half a step
pub twenty-zeros : (z f : ℕ) (ds : List ℕ) → Small ds → f ≤ 64 → 20 ≤ z → nearest_even (nat_of 10 ds * 2 ^ f) (10 ^ (z + length ds)) ≡ 0
twenty-zeros z f ds s few h =
    let p = 10 ^ length ds in
    let bits : 2 ^ f ≤ 2 ^ 64 = pow_mono few in
    let split : 10 ^ (z + length ds) ≡ 10 ^ (z - 20) * (10 ^ 20 * p) =
    ap (λ (i : ℕ). 10 ^ i) (omega arith) ∙ pow-add 10 (z - 20) (20 + length ds) ∙ ap (λ (n : ℕ). 10 ^ (z - 20) * n) (pow-add 10 20 (length ds)) in
    let rest : 1 * (10 ^ 20 * p) ≤ 10 ^ (z - 20) * (10 ^ 20 * p) = mul-le-mul_right (10 ^ 20 * p) (one-le-pow (z - 20) 10 (omega arith)) in
    let less : suc (nat_of 10 ds) * 2 ^ f ≤ p * 2 ^ f = mul-le-mul_right (2 ^ f) (nat-below ds s) in
    let most : 2 ^ f * p ≤ 2 ^ 64 * p = mul-le-mul_right p bits in
    nearest-none (nat_of 10 ds * 2 ^ f) (10 ^ (z + length ds)) (omega (arith, pow_pos f))
