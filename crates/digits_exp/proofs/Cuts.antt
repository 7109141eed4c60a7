-- A split of the second layer: how many digits it takes of each of the four, and that these are the first digits of the whole. Assumes nothing.
use mathlib.Core.Path.{◌≡◌, sym, ap, ◌∙◌}
use mathlib.Core.List.{List, [], ◌∷◌, ◌++◌}
use Prim.Native.Nat.{ℕ, zero, suc, ◌+◌, ◌-◌, ◌^◌, ◌<◌, min}
use native.Mathlib.Nat.{sub-zero, zero-sub, suc-sub-suc}
use native.Mathlib.Omega.{arith}
use lib.ListN.{length, take, drop, length-append}
use lib.Seq.{take-nil, drop-nil}
use Rattle.std.proofs.lemmas.List.{take_min, drop_min}
use Rattle.laws.specs.Text.{zeros}
use Rattle.digits_exp.specs.declared.Span.{Span}
use Rattle.digits_exp.specs.declared.DigitsExp.{DigitsExp}
use Rattle.digits_exp.specs.declared.Counts.{Counts}
use Rattle.digits_exp.specs.Meaning.{span_of, Stands, IsExp, StandsExp, digits_exp_of}
use Rattle.digits_exp.specs.Inner.{cut_of}
use Rattle.digits_exp.specs.Zeros.{zeros-length, take-zeros, drop-zeros}

-- ---- the first digits of two lists, one after the other
take-append : (n : ℕ) (s t : List ℕ) → take n (s ++ t) ≡ take n s ++ take (n - length s) t
take-append n [] t = rw (take-nil n, sub-zero n)
take-append zero (b ∷ s) t = ap (λ (k : ℕ). take k t) (sym (zero-sub (suc (length s))))
take-append (suc n) (b ∷ s) t =
    ap (λ (l : List ℕ). b ∷ l) (take-append n s t ∙ ap (λ (k : ℕ). take n s ++ take k t) (sym (suc-sub-suc n (length s))))

drop-append : (n : ℕ) (s t : List ℕ) → drop n (s ++ t) ≡ drop n s ++ drop (n - length s) t
drop-append n [] t = rw (drop-nil n, sub-zero n)
drop-append zero (b ∷ s) t = ap (λ (k : ℕ). b ∷ (s ++ drop k t)) (sym (zero-sub (suc (length s))))
drop-append (suc n) (b ∷ s) t = drop-append n s t ∙ ap (λ (k : ℕ). drop n s ++ drop k t) (sym (suc-sub-suc n (length s)))

-- no more than there are
take_least : (n : ℕ) (l : List ℕ) (k : ℕ) → k ≡ length l → take (min n k) l ≡ take n l
take_least n l k e = rw e (take_min n l)

drop_least : (n : ℕ) (l : List ℕ) (k : ℕ) → k ≡ length l → drop (min n k) l ≡ drop n l
drop_least n l k e = rw e (drop_min n l)

-- zeros, of which n are wanted
take-zeros-min : (n k : ℕ) → zeros (min n k) ≡ take n (zeros k)
take-zeros-min n k = sym (sym (take_least n (zeros k) k (sym (zeros-length k))) ∙ take-zeros (min n k) k (omega arith))

drop-zeros-min : (n k : ℕ) → zeros (k - min n k) ≡ drop n (zeros k)
drop-zeros-min n k = sym (sym (drop_least n (zeros k) k (sym (zeros-length k))) ∙ drop-zeros (min n k) k (omega arith))

-- ---- the count of the whole
module _ (t : List ℕ) (x : DigitsExp) (is : IsExp t x) where
  pub len_is : x.leading_zeros + x.part1.digits + x.part2.digits + x.trailing_zeros ≡ length (digits_exp_of t x)
  unfolding digits_exp_of
  len_is =
      let z = zeros x.leading_zeros in
      let a = span_of t x.part1 in
      let b = span_of t x.part2 in
      let y = zeros x.trailing_zeros in
      omega (
        arith,
        length-append z (a ++ (b ++ y)),
        length-append a (b ++ y),
        length-append b y,
        zeros-length x.leading_zeros,
        zeros-length x.trailing_zeros,
        is.one.count,
        is.two.count,
      )

  -- the sums on the way fit where the whole does
  pub len-fits : length (digits_exp_of t x) < 2 ^ 64
      → (x.leading_zeros + x.part1.digits < 2 ^ 64) × (x.leading_zeros + x.part1.digits + x.part2.digits < 2 ^ 64)
      × (x.leading_zeros + x.part1.digits + x.part2.digits + x.trailing_zeros < 2 ^ 64)
  len-fits h = (omega (arith, len_is), omega (arith, len_is), omega (arith, len_is))

-- ---- to take the first digits, or to drop them: what is done to the whole is done to each of the four
joined : {a a' b b' c c' d d' : List ℕ} → a ≡ a' → b ≡ b' → c ≡ c' → d ≡ d' → a ++ (b ++ (c ++ d)) ≡ a' ++ (b' ++ (c' ++ d'))
joined e f g h = cc

module _ (op : ℕ → List ℕ → List ℕ) (append : (n : ℕ) (s t : List ℕ) → op n (s ++ t) ≡ op n s ++ op (n - length s) t)
    (least : (n : ℕ) (l : List ℕ) (k : ℕ) → k ≡ length l → op (min n k) l ≡ op n l) where
  four : (n : ℕ) (z a b y : List ℕ)
      → op n (z ++ (a ++ (b ++ y))) ≡ op n z ++ (op (n - length z) a ++ (op (n - length z - length a) b ++ op (n - length z - length a - length b) y))
  four n z a b y =
      append n z (a ++ (b ++ y))
      ∙ ap (λ (l : List ℕ). op n z ++ l)
      (append (n - length z) a (b ++ y) ∙ ap (λ (l : List ℕ). op (n - length z) a ++ l) (append (n - length z - length a) b y))

  module _ (x : DigitsExp) (n : ℕ) {k : Counts} (e : k ≡ cut_of x n) (t : List ℕ) (is : IsExp t x) {a b : Span} {p q : ℕ} where
    by_parts : zeros p ≡ op n (zeros x.leading_zeros)
        → Stands t a (op k.one (span_of t x.part1)) → Stands t b (op k.two (span_of t x.part2))
        → zeros q ≡ op (n - x.leading_zeros - x.part1.digits - x.part2.digits) (zeros x.trailing_zeros)
        → StandsExp t (record { leading_zeros = p; part1 = a; part2 = b; trailing_zeros = q }) (op n (digits_exp_of t x))
    unfolding digits_exp_of
    by_parts one sa sb four' =
        let z = x.leading_zeros in
        let y = zeros x.trailing_zeros in
        let d = span_of t x.part1 in
        let f = span_of t x.part2 in
        let i = x.part1.digits in
        let j = x.part2.digits in
        let q2 : n - z ≡ n - length (zeros z) = omega (arith, zeros-length z) in
        let q3 : n - z - i ≡ n - length (zeros z) - length d = omega (arith, zeros-length z, is.one.count) in
        let q4 : n - z - i - j ≡ n - length (zeros z) - length d - length f = omega (arith, zeros-length z, is.one.count, is.two.count) in
        record {
          is = record { one = sa.is; two = sb.is };
          same =
              joined one
              (sa.same ∙ ap (λ (c : Counts). op c.one d) e ∙ least (n - z) d i is.one.count ∙ ap (λ (m : ℕ). op m d) q2)
              (sb.same ∙ ap (λ (c : Counts). op c.two f) e ∙ least (n - z - i) f j is.two.count ∙ ap (λ (m : ℕ). op m f) q3)
              (four' ∙ ap (λ (m : ℕ). op m y) q4)
              ∙ sym (four n (zeros z) d f y);
        }

module _ (x : DigitsExp) (n : ℕ) {k : Counts} (e : k ≡ cut_of x n) (t : List ℕ) (is : IsExp t x) {a b : Span} where
  pub upto-exp : Stands t a (take k.one (span_of t x.part1)) → Stands t b (take k.two (span_of t x.part2))
      → StandsExp t (record { leading_zeros = k.front; part1 = a; part2 = b; trailing_zeros = k.behind }) (take n (digits_exp_of t x))
  upto-exp sa sb =
      by_parts take take-append take_least x n e t is
      (ap (λ (c : Counts). zeros c.front) e ∙ take-zeros-min n x.leading_zeros) sa sb
      (ap (λ (c : Counts). zeros c.behind) e
      ∙ take-zeros-min (n - x.leading_zeros - x.part1.digits - x.part2.digits) x.trailing_zeros)

  pub from-exp : Stands t a (drop k.one (span_of t x.part1)) → Stands t b (drop k.two (span_of t x.part2))
      → StandsExp t (record { leading_zeros = x.leading_zeros - k.front; part1 = a; part2 = b; trailing_zeros = x.trailing_zeros - k.behind })
      (drop n (digits_exp_of t x))
  from-exp sa sb =
      by_parts drop drop-append drop_least x n e t is
      (ap (λ (c : Counts). zeros (x.leading_zeros - c.front)) e ∙ drop-zeros-min n x.leading_zeros) sa sb
      (ap (λ (c : Counts). zeros (x.trailing_zeros - c.behind)) e
      ∙ drop-zeros-min (n - x.leading_zeros - x.part1.digits - x.part2.digits) x.trailing_zeros)
