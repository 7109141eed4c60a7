-- Digits of a whole number of bits each, cut at a bit: the whole number in front of the cut, and what the bits behind it say of one half.
-- Assumes nothing.
use Rattle.std.specs.Prelude.{◌≡◌, Bool, true, false, cond, ℕ, zero, suc, ◌+◌, ◌-◌, ◌*◌, ◌/◌, ◌%◌, ◌^◌, ◌≤◌, ◌<◌, take}
use Rattle.std.proofs.Math.Path.{refl, ap, ap₂}
use Rattle.std.proofs.Common.{sym, ◌∙◌, subst, mod-lt, mul-le-mul_right, pow-suc, mul-pos, add-one, length-drop, pow-add, pow_pos, pow_mono}
use mathlib.Core.List.{List, Memᴰ}
use Rattle.std.proofs.Math.Nat.{div-add-mod', pow-zero}
use native.Mathlib.Omega.{arith}
use Rattle.std.proofs.Math.ListN.{length, drop, get_or}
use Rattle.std.proofs.Math.Seq.{get_or-drop, drop-drop}
use Rattle.laws.specs.Nearest.{nearest_even, nearest-none}
use Rattle.laws.specs.Powers.{power-sub, double}
use Rattle.grammar.specs.Naturals.{nat_of, nat_of-below}
use Rattle.fold.specs.declared.Folded.{Folded}
use Rattle.std.specs.declared.cmp.Ordering.{Ordering}
use Rattle.std.specs.declared.cmp.Ordering.TheVariants.{Less, Equal, Greater}
use Rattle.std.specs.Ordering.{MatchOrdering, nat_cmp, ordering_then}
use Rattle.std.specs.Cmp.{ranks, nat_cmp_is}
use Rattle.fold.specs.Round.{round_by, nearest-middle}
use Rattle.fold.specs.Fold.{fold_of, folded_value, fold_step, fold-round}
use Rattle.fold.specs.Body.{any_of, drop-digits}
use Rattle.bits.specs.Numbers.{nat-around, any_none, any_some}

-- digits of `width` bits each as a number
abbrev pub bits_number : List ℕ → ℕ → ℕ
bits_number ds width = nat_of (2 ^ width) ds

pub record WholeBits (ds : List ℕ) (n width : ℕ) : Type 0 where
  pub count : n ≡ length ds
  pub some : 0 < width
  pub small : width ≤ 4
  pub below : (d : ℕ) → Memᴰ d ds → d < 2 ^ width

-- the bits t of a digit against one half of them; where they are one half, the digits after it decide
unfoldable pub cut_of : ℕ → ℕ → Bool → Ordering
cut_of t half rest = ordering_then (nat_cmp t half) (cond rest Greater Equal)

-- ---- n is the whole number q and, below it, t and r: (q * c + t) * p + r, with c twice a half, t below c and r below p
module _ (q t r c p half : ℕ) (two : c ≡ half * 2) (below : t < c) (rest : r < p) where
  cut-order : {any : Bool} → (any ≡ true → 0 < r) → (any ≡ false → r ≡ 0) → cut_of t half any ≡ nat_cmp (((q * c + t) * p + r) * 2) ((q * 2 + 1) * (p * c))
  unfolding cut_of
  cut-order {any} some none = nat_cmp_is (((q * c + t) * p + r) * 2) ((q * 2 + 1) * (p * c)) _ (go (nat_cmp t half) (ranks t half) any refl)
    where
      whole : p * c ≡ half * p * 2
      whole = ap (λ (k : ℕ). p * k) two ∙ omega arith

      go : (o : Ordering) → MatchOrdering o (t < half) (t ≡ half) (half < t) → (z : Bool) → any ≡ z
          → MatchOrdering (ordering_then o (cond z Greater Equal)) (((q * c + t) * p + r) * 2 < (q * 2 + 1) * (p * c)) (((q * c + t) * p + r) * 2 ≡ (q * 2 + 1) * (p * c))
          ((q * 2 + 1) * (p * c) < ((q * c + t) * p + r) * 2)
      go Less h z g =
          let less : suc t * p ≤ half * p = mul-le-mul_right p h in
          omega (arith, whole)
      go Greater h z g =
          let more : suc half * p ≤ t * p = mul-le-mul_right p h in
          omega (arith, whole)
      go Equal h true g = omega (arith, whole, some g, ap (λ (k : ℕ). k * p) h)
      go Equal h false g = omega (arith, whole, none g, ap (λ (k : ℕ). k * p) h)

  pub cut-nearest : {any : Bool} → (any ≡ true → 0 < r) → (any ≡ false → r ≡ 0) → nearest_even ((q * c + t) * p + r) (p * c) ≡ round_by (cut_of t half any) q
  cut-nearest {any} some none =
      let n = (q * c + t) * p + r in
      let most : suc t * p ≤ c * p = mul-le-mul_right p below in
      nearest-middle n (p * c) q (mul-pos (omega arith) (omega arith)) (omega arith) (omega arith) ∙ ap (λ (o : Ordering). round_by o q) (sym (cut-order some none))

-- ---- powers of two
pub pow-pow : (b k : ℕ) → (2 ^ b) ^ k ≡ 2 ^ (b * k)
pow-pow b zero = let none : 0 ≡ b * 0 = omega arith in pow-zero (2 ^ b) ∙ ap (λ (n : ℕ). 2 ^ n) none
pow-pow b (suc k) =
    pow-suc (2 ^ b) k ∙ ap (λ (n : ℕ). n * 2 ^ b) (pow-pow b k) ∙ sym (pow-add 2 (b * k) b) ∙ ap (λ (n : ℕ). 2 ^ n) (omega arith)

-- ---- the cut in the digit number `count`, with c of its bits behind it: the digits in front of that digit, the digit, and those behind it
abbrev pub digit_at : List ℕ → ℕ → ℕ
digit_at ds count = get_or ds count 0

abbrev front : List ℕ → ℕ → ℕ → ℕ
front ds width count = nat_of (2 ^ width) (take count ds)

abbrev behind : List ℕ → ℕ → ℕ → ℕ
behind ds width count = nat_of (2 ^ width) (drop (suc count) ds)

-- the whole number in front of the cut
unfoldable pub cut_whole : List ℕ → ℕ → ℕ → ℕ → ℕ
cut_whole ds width count c = front ds width count * 2 ^ (width - c) + digit_at ds count / 2 ^ c

module _ (ds : List ℕ) (n width count c : ℕ) (digits : WholeBits ds n width) (inside : count < n) (one : 1 ≤ c) (most : c ≤ width) where
  number_is : bits_number ds width ≡ (cut_whole ds width count c * 2 ^ c + digit_at ds count % 2 ^ c) * 2 ^ (width * (n - count - 1)) + behind ds width count
  unfolding cut_whole
  number_is =
      let f = front ds width count in
      let d = digit_at ds count in
      let left : length ds - count - 1 ≡ n - count - 1 = omega (arith, digits.count) in
      let here : f * 2 ^ width + d ≡ (f * 2 ^ (width - c) + d / 2 ^ c) * 2 ^ c + d % 2 ^ c =
      omega (arith, ap (λ (k : ℕ). f * k) (power-sub c width most), div-add-mod' d (2 ^ c)) in
      nat-around (2 ^ width) ds count (omega (arith, digits.count))
      ∙ ap (λ (p : ℕ). (f * 2 ^ width + d) * p + behind ds width count) (pow-pow width (length ds - count - 1) ∙ ap (λ (k : ℕ). 2 ^ (width * k)) left)
      ∙ ap (λ (m : ℕ). m * 2 ^ (width * (n - count - 1)) + behind ds width count) here

  behind-lt : behind ds width count < 2 ^ (width * (n - count - 1))
  behind-lt =
      let size : length (drop (suc count) ds) ≡ n - count - 1 = length-drop (suc count) ds ∙ omega (arith, digits.count) in
      subst (λ (m : ℕ). behind ds width count < m) (pow-pow width (length (drop (suc count) ds)) ∙ ap (λ (k : ℕ). 2 ^ (width * k)) size)
      (nat_of-below (2 ^ width) (drop (suc count) ds) (drop-digits (suc count) digits.below))

  cut-is : {any : Bool} → any ≡ any_of (drop (suc count) ds)
      → nearest_even (bits_number ds width) (2 ^ (width * (n - count - 1) + c))
      ≡ round_by (cut_of (digit_at ds count % 2 ^ c) (2 ^ (c - 1)) any) (cut_whole ds width count c)
  cut-is {any} e =
      ap₂ nearest_even number_is (pow-add 2 (width * (n - count - 1)) c)
      ∙ cut-nearest (cut_whole ds width count c) (digit_at ds count % 2 ^ c) (behind ds width count) (2 ^ c) (2 ^ (width * (n - count - 1))) (2 ^ (c - 1))
      (double c one) (mod-lt (digit_at ds count) (pow_pos c)) behind-lt
      (λ a. any_some (2 ^ width) (drop (suc count) ds) (pow_pos width) (sym e ∙ a))
      (λ a. any_none (2 ^ width) (drop (suc count) ds) (sym e ∙ a))

  -- the same as the code finds it: x the digits in front, d the digit and es those behind, y the whole number in front of the cut
  pub cut-done :
      {x y r : Folded} {d : ℕ} {es : List ℕ} {any : Bool} {how : Ordering} → x ≡ fold_of (nat_of (2 ^ width) (take count ds))
      → (d ≡ get_or (drop count ds) 0 0) × (es ≡ drop 1 (drop count ds)) → any ≡ any_of es
      → y ≡ fold_of (folded_value x * 2 ^ (width - c) + d / 2 ^ c) → how ≡ cut_of (d % 2 ^ c) (2 ^ (c - 1)) any → r ≡ fold_of (round_by how (folded_value y))
      → r ≡ fold_of (nearest_even (bits_number ds width) (2 ^ (width * (n - count - 1) + c)))
  unfolding cut_whole
  cut-done {x} {y} {r} {d} {es} {any} {how} head digit rest whole by end =
      let is_digit : d ≡ digit_at ds count = digit.0 ∙ get_or-drop count ds 0 0 ∙ ap (λ (j : ℕ). get_or ds j 0) (omega arith) in
      let is-rest : any ≡ any_of (drop (suc count) ds) =
      rest ∙ ap any_of (digit.1 ∙ drop-drop 1 count ds ∙ ap (λ (j : ℕ). drop j ds) (add-one count)) in
      let is_whole : y ≡ fold_of (cut_whole ds width count c) =
      whole ∙ ap₂ (λ (z : Folded) (v : ℕ). fold_of (folded_value z * 2 ^ (width - c) + v / 2 ^ c)) head is_digit
      ∙ fold_step (front ds width count) (2 ^ (width - c)) (digit_at ds count / 2 ^ c) (pow_pos (width - c)) in
      let is-how : how ≡ cut_of (digit_at ds count % 2 ^ c) (2 ^ (c - 1)) any = by ∙ ap (λ (v : ℕ). cut_of (v % 2 ^ c) (2 ^ (c - 1)) any) is_digit in
      end ∙ ap₂ (λ (o : Ordering) (z : Folded). fold_of (round_by o (folded_value z))) is-how is_whole
      ∙ fold-round (cut_whole ds width count c) (cut_of (digit_at ds count % 2 ^ c) (2 ^ (c - 1)) any)
      ∙ ap fold_of (sym (cut-is is-rest))

-- ---- fewer digits than are behind the cut: the number is below one half
cut-away : (ds : List ℕ) (n width s : ℕ) → WholeBits ds n width → 0 < s → n ≤ (s - 1) / width → nearest_even (bits_number ds width) (2 ^ s) ≡ 0
cut-away ds n width s digits some far =
    let low = (s - 1) / width in
    let size : bits_number ds width < 2 ^ (width * n) =
    subst (λ (m : ℕ). bits_number ds width < m) (pow-pow width (length ds) ∙ ap (λ (k : ℕ). 2 ^ (width * k)) (sym digits.count))
    (nat_of-below (2 ^ width) ds digits.below) in
    let fewer : n * width ≤ low * width = mul-le-mul_right width far in
    let most : low * width + 1 ≤ s = omega (arith, div-add-mod' (s - 1) width) in
    let up : 2 ^ (width * n + 1) ≤ 2 ^ s = pow_mono {i = width * n + 1} {j = s} (omega arith) in
    nearest-none (bits_number ds width) (2 ^ s) (omega (arith, pow-add 2 (width * n) 1))

-- ---- where the cut is: `low` digits behind the one that is cut, and c bits of that one
cut_at : (n s width : ℕ) → 0 < s → (s - 1) / width < n → width * (n - (n - (s - 1) / width - 1) - 1) + ((s - 1) % width + 1) ≡ s
cut_at n s width h k =
    let low = (s - 1) / width in
    let e : n - (n - low - 1) - 1 ≡ low = omega arith in
    omega (arith, ap (λ (j : ℕ). width * j) e, div-add-mod' (s - 1) width)

pub cut-found : (ds : List ℕ) (n s width : ℕ) {r : Folded} → 0 < s → (s - 1) / width < n
    → r ≡ fold_of (nearest_even (bits_number ds width) (2 ^ (width * (n - (n - (s - 1) / width - 1) - 1) + ((s - 1) % width + 1))))
    → r ≡ fold_of (nearest_even (bits_number ds width) (2 ^ s))
cut-found ds n s width h k e = e ∙ ap (λ (j : ℕ). fold_of (nearest_even (bits_number ds width) (2 ^ j))) (cut_at n s width h k)

pub cut-none : (ds : List ℕ) (n s width : ℕ) {r : Folded} → WholeBits ds n width → 0 < s → n ≤ (s - 1) / width → r ≡ fold_of 0
    → r ≡ fold_of (nearest_even (bits_number ds width) (2 ^ s))
cut-none ds n s width digits h k e = e ∙ ap fold_of (sym (cut-away ds n width s digits h k))
