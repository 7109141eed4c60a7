-- Moving the point: what the digits are where all of them are moved, and where some stay. The zeros that pad them are counted, or are dropped again.
-- Assumes nothing.
use mathlib.Core.Path.{◌≡◌, refl, sym, ap, subst, ◌∙◌}
use mathlib.Core.Bool.{true, false}
use mathlib.Core.List.{List, [], ◌++◌, append_assoc, append-nil}
use Prim.Native.Nat.{ℕ, ◌+◌, ◌-◌, ◌≤◌, ◌<◌}
use native.Mathlib.Omega.{arith}
use lib.ListN.{length, take, drop}
use lib.Seq.{take-append-le, drop-append-le, take-append-add, drop-append-add}
use lib.IntN.{ℤ, pos, negsuc, nat_abs}
use lib.Signed.{lt_z}
use mir.Syntax.{w32}
use mir.Val.{SFits, to_z, of_z}
use mir.Facts.{to_z-of_z}
use Rattle.laws.specs.Text.{zeros}
use Rattle.laws.specs.Signed.{signed}
use Rattle.laws.specs.Tests.{lt_z-true, lt_z-false}
use Rattle.digits_exp.specs.declared.Span.{Span}
use Rattle.digits_exp.specs.declared.DigitsExp.{DigitsExp}
use Rattle.digits_exp.specs.declared.IntFrac.{IntFrac}
use Rattle.digits.specs.Meaning.{is_zero, drop_while, drop_back}
use Rattle.digits_exp.specs.Zeros.{zeros-length, take-zeros, drop-zeros, while-append-none, back-append-none, zeros-while, zeros-back}
use Rattle.digits_exp.specs.Meaning.{span_of, IsSpan, Stands, StandsExp, digits_exp_of, right_int}
use Rattle.digits_exp.specs.Meaning.{right_frac, left_int, left_frac, moved_int, moved_frac, StandsDropped}
use Rattle.digits_exp.specs.Inner.{Empty, EmptyExp, Moved}
use Rattle.digits_exp.proofs.Spans.{empty_stands}

-- ---- to the right
module _ (n : ℕ) (i f : List ℕ) where
  right-all : length f ≤ n → (i ++ f) ++ zeros (n - length f) ≡ right_int n i f
  unfolding right_int
  right-all h =
      let k : n ≡ length f + (n - length f) = omega arith in
      append_assoc i f (zeros (n - length f))
      ∙ ap (λ (l : List ℕ). i ++ l)
      (sym
      (ap (λ (m : ℕ). take m (f ++ zeros n)) k ∙ take-append-add f (zeros n) (n - length f)
      ∙ ap (λ (l : List ℕ). f ++ l) (take-zeros (n - length f) n (omega arith))))

  right-rest : length f ≤ n → [] ≡ drop_back is_zero (right_frac n i f)
  unfolding right_frac
  right-rest h =
      let k : n ≡ length f + (n - length f) = omega arith in
      sym
      (ap (drop_back is_zero)
      (ap (λ (m : ℕ). drop m (f ++ zeros n)) k ∙ drop-append-add f (zeros n) (n - length f) ∙ drop-zeros (n - length f) n (omega arith))
      ∙ zeros-back (n - (n - length f)))

  right-some : n < length f → (i ++ take n f) ++ zeros 0 ≡ right_int n i f
  unfolding right_int
  right-some h = append-nil (i ++ take n f) ∙ ap (λ (l : List ℕ). i ++ l) (sym (take-append-le n f (zeros n) (omega arith)))

  right-left : n < length f → drop_back is_zero (drop n f) ≡ drop_back is_zero (right_frac n i f)
  unfolding right_frac
  right-left h =
      sym (ap (drop_back is_zero) (drop-append-le n f (zeros n) (omega arith)) ∙ back-append-none is_zero (drop n f) (zeros n) (zeros-back n))

-- ---- to the left
module _ (n : ℕ) (i f : List ℕ) where
  left-rest : length i ≤ n → [] ≡ drop_while is_zero (left_int n i f)
  unfolding left_int
  left-rest h =
      let z : length i ≤ length (zeros n) = omega (arith, zeros-length n) in
      sym (ap (drop_while is_zero) (take-append-le (length i) (zeros n) i z ∙ take-zeros (length i) n h) ∙ zeros-while (length i))

  left-all : length i ≤ n → zeros (n - length i) ++ (i ++ f) ≡ left_frac n i f
  unfolding left_frac
  left-all h =
      let z : length i ≤ length (zeros n) = omega (arith, zeros-length n) in
      sym (append_assoc (zeros (n - length i)) i f)
      ∙ ap (λ (l : List ℕ). l ++ f) (sym (drop-append-le (length i) (zeros n) i z ∙ ap (λ (l : List ℕ). l ++ i) (drop-zeros (length i) n h)))

  left-left : n < length i → drop_while is_zero (take (length i - n) i) ≡ drop_while is_zero (left_int n i f)
  unfolding left_int
  left-left h =
      let k : length i ≡ length (zeros n) + (length i - n) = omega (arith, zeros-length n) in
      sym
      (ap (drop_while is_zero) (ap (λ (m : ℕ). take m (zeros n ++ i)) k ∙ take-append-add (zeros n) i (length i - n))
      ∙ while-append-none is_zero (zeros n) (take (length i - n) i) (zeros-while n))

  left-some : n < length i → drop (length i - n) i ++ f ≡ left_frac n i f
  unfolding left_frac
  left-some h =
      let k : length i ≡ length (zeros n) + (length i - n) = omega (arith, zeros-length n) in
      ap (λ (l : List ℕ). l ++ f) (sym (ap (λ (m : ℕ). drop m (zeros n ++ i)) k ∙ drop-append-add (zeros n) i (length i - n)))

-- ---- the same of what stands in the text
pub exp-as : {t : List ℕ} {x : DigitsExp} {d d' : List ℕ} → StandsExp t x d → d ≡ d' → StandsExp t x d'
exp-as h e = record { is = h.is; same = h.same ∙ e }

pub nothing-stands : (t : List ℕ) {x : DigitsExp} → EmptyExp x → StandsExp t x []
unfolding digits_exp_of
nothing-stands t {x} q =
    let a = empty_stands t q.1.0 in
    let b = empty_stands t q.1.1.0 in
    record {
      is = record { one = a.is; two = b.is };
      same = rw (q.0, q.1.1.1, a.same, b.same);
    }

module _ (t : List ℕ) (a b : Span) (n : ℕ) where
  -- all digits of the fraction go to the integer
  pub right-moved-all : {x y : DigitsExp} → IsSpan t b → b.digits ≤ n
      → StandsExp t x (drop_while is_zero ((span_of t a ++ span_of t b) ++ zeros (n - b.digits))) → EmptyExp y
      → Moved t (record { int = x; frac = y }) (right_int n) (right_frac n) a b
  right-moved-all ib h sx q =
      let k : length (span_of t b) ≤ n = omega (arith, ib.count) in
      record {
        int =
            exp-as sx
            (ap (λ (d : ℕ). drop_while is_zero ((span_of t a ++ span_of t b) ++ zeros (n - d))) ib.count
            ∙ ap (drop_while is_zero) (right-all n (span_of t a) (span_of t b) k));
        frac = exp-as (nothing-stands t q) (right-rest n (span_of t a) (span_of t b) k);
      }

  -- n digits go, m, and some stay, l
  pub right-moved-some : {m l e : Span} {x y : DigitsExp} → IsSpan t b → n < b.digits → Stands t m (take n (span_of t b)) → Stands t l (drop n (span_of t b))
      → Empty e
      → StandsExp t x (drop_while is_zero ((span_of t a ++ span_of t m) ++ zeros 0)) → StandsExp t y (drop_back is_zero (zeros 0 ++ (span_of t e ++ span_of t l)))
      → Moved t (record { int = x; frac = y }) (right_int n) (right_frac n) a b
  right-moved-some {m} {l} {e} ib h sm sl q sx sy =
      let k : n < length (span_of t b) = omega (arith, ib.count) in
      record {
        int =
            exp-as sx
            (ap (λ (d : List ℕ). drop_while is_zero ((span_of t a ++ d) ++ zeros 0)) sm.same
            ∙ ap (drop_while is_zero) (right-some n (span_of t a) (span_of t b) k));
        frac =
            exp-as sy
            (ap (λ (d : List ℕ). drop_back is_zero (d ++ span_of t l)) (empty_stands t q).same ∙ ap (drop_back is_zero) sl.same
            ∙ right-left n (span_of t a) (span_of t b) k);
      }

  -- all digits of the integer go to the fraction
  pub left-moved-all : {x y : DigitsExp} → IsSpan t a → a.digits ≤ n
      → EmptyExp x → StandsExp t y (drop_back is_zero (zeros (n - a.digits) ++ (span_of t a ++ span_of t b)))
      → Moved t (record { int = x; frac = y }) (left_int n) (left_frac n) a b
  left-moved-all ia h q sy =
      let k : length (span_of t a) ≤ n = omega (arith, ia.count) in
      record {
        int = exp-as (nothing-stands t q) (left-rest n (span_of t a) (span_of t b) k);
        frac =
            exp-as sy
            (ap (λ (d : ℕ). drop_back is_zero (zeros (n - d) ++ (span_of t a ++ span_of t b))) ia.count
            ∙ ap (drop_back is_zero) (left-all n (span_of t a) (span_of t b) k));
      }

  -- n digits go, m, and some stay, l
  pub left-moved-some : {m l e : Span} {x y : DigitsExp} → IsSpan t a → n < a.digits
      → Stands t l (take (a.digits - n) (span_of t a)) → Stands t m (drop (a.digits - n) (span_of t a)) → Empty e
      → StandsExp t x (drop_while is_zero ((span_of t l ++ span_of t e) ++ zeros 0)) → StandsExp t y (drop_back is_zero (zeros 0 ++ (span_of t m ++ span_of t b)))
      → Moved t (record { int = x; frac = y }) (left_int n) (left_frac n) a b
  left-moved-some {m} {l} {e} ia h sl sm q sx sy =
      let k : n < length (span_of t a) = omega (arith, ia.count) in
      record {
        int =
            exp-as sx
            (ap (drop_while is_zero)
            (append-nil (span_of t l ++ span_of t e) ∙ ap (λ (d : List ℕ). span_of t l ++ d) (empty_stands t q).same ∙ append-nil (span_of t l) ∙ sl.same
            ∙ ap (λ (d : ℕ). take (d - n) (span_of t a)) ia.count)
            ∙ left-left n (span_of t a) (span_of t b) k);
        frac =
            exp-as sy
            (ap (λ (d : List ℕ). drop_back is_zero (d ++ span_of t b)) (sm.same ∙ ap (λ (d : ℕ). drop (d - n) (span_of t a)) ia.count)
            ∙ ap (drop_back is_zero) (left-some n (span_of t a) (span_of t b) k));
      }

-- ---- the exponent decides which way, and how far
module _ (i f : List ℕ) where
  moved-left : (z : ℤ) → lt_z z (pos 0) ≡ true → (left_int (nat_abs z) i f ≡ moved_int z i f) × (left_frac (nat_abs z) i f ≡ moved_frac z i f)
  unfolding moved_int moved_frac
  moved-left (pos n) e = let h = lt_z-true (pos n) (pos 0) e in absurd (omega signed)
  moved-left (negsuc m) e = (refl, refl)

  moved-right : (z : ℤ) → lt_z z (pos 0) ≡ false → (right_int (nat_abs z) i f ≡ moved_int z i f) × (right_frac (nat_abs z) i f ≡ moved_frac z i f)
  unfolding moved_int moved_frac
  moved-right (pos n) e = (refl, refl)
  moved-right (negsuc m) e = let h = lt_z-false (negsuc m) (pos 0) e in absurd (omega signed)

  module _ (t : List ℕ) (z : ℤ) {a b : Span} {n : ℕ} {r : IntFrac} (fits : SFits w32 z) (sa : Stands t a i) (sb : Stands t b f)
      (en : n ≡ nat_abs (to_z w32 (of_z w32 z))) where
    -- any way of moving, from the spans to their digits
    by_way : (int frac : ℕ → List ℕ → List ℕ → List ℕ) {d g : List ℕ} → int (nat_abs z) i f ≡ d → frac (nat_abs z) i f ≡ g → Moved t r (int n) (frac n) a b
        → StandsDropped t r d g
    by_way int frac p q s =
        let count-is : n ≡ nat_abs z = en ∙ ap nat_abs (to_z-of_z fits) in
        record {
          int = exp-as s.int (ap (drop_while is_zero) (ap (λ (k : ℕ). int k (span_of t a) (span_of t b)) count-is ∙ rw (sa.same, sb.same) p));
          frac = exp-as s.frac (ap (drop_back is_zero) (ap (λ (k : ℕ). frac k (span_of t a) (span_of t b)) count-is ∙ rw (sa.same, sb.same) q));
        }

    pub goes_left : lt_z (to_z w32 (of_z w32 z)) (pos 0) ≡ true → Moved t r (left_int n) (left_frac n) a b → StandsDropped t r (moved_int z i f) (moved_frac z i f)
    goes_left e s =
        let m = moved-left z (subst (λ (x : ℤ). lt_z x (pos 0) ≡ true) (to_z-of_z fits) e) in
        by_way left_int left_frac m.0 m.1 s

    pub goes-right : lt_z (to_z w32 (of_z w32 z)) (pos 0) ≡ false → Moved t r (right_int n) (right_frac n) a b → StandsDropped t r (moved_int z i f) (moved_frac z i f)
    goes-right e s =
        let m = moved-right z (subst (λ (x : ℤ). lt_z x (pos 0) ≡ false) (to_z-of_z fits) e) in
        by_way right_int right_frac m.0 m.1 s
