-- Laws of the second layer: what two views stand for without the zeros at an end, and with a count of zeros at the other. Assumes nothing.
use mathlib.Core.Path.{◌≡◌, sym, ap, ◌∙◌}
use mathlib.Core.Bool.{cond}
use mathlib.Core.List.{List, [], ◌++◌, append_assoc, append-nil}
use Prim.Native.Nat.{ℕ}
use native.Mathlib.Omega.{arith}
use lib.ListN.{length}
use lib.Dec.{eqb}
use Rattle.laws.specs.Text.{zeros}
use Rattle.laws.specs.Lists.{no_length}
use Rattle.digits_exp.specs.declared.Span.{Span}
use Rattle.digits.specs.Meaning.{is_zero, drop_while, drop_back}
use Rattle.digits_exp.specs.Meaning.{span_of, IsSpan, Stands, StandsExp, digits_exp_of}
use Rattle.digits_exp.specs.Inner.{Empty, StandsPair}
use Rattle.digits_exp.specs.Zeros.{while-append-none, while-append-some, back-append-none, back-append-some, only-if, int-zeros, frac-zeros}
use Rattle.digits_exp.proofs.Spans.{empty_stands}

-- a span has no digits where its count is 0
none_left : {t : List ℕ} {x : Span} {d : List ℕ} → Stands t x d → x.digits ≡ 0 → d ≡ []
none_left {d = d} s z = no_length d (omega (arith, s.is.count, ap length s.same))

some_left : {t : List ℕ} {x : Span} {d : List ℕ} → Stands t x d → (x.digits ≡ 0 → ⊥) → d ≡ [] → ⊥
some_left s h e = h (omega (arith, s.is.count, ap length s.same, ap length e))

-- one view alone
pair_one : (t : List ℕ) {y e : Span} {d d' : List ℕ} → Stands t y d → Empty e → d ≡ d' → StandsPair t (y, e) d'
pair_one t {y} s q h =
    let n = empty_stands t q in
    record { one = s.is; two = n.is; same = ap (λ (l : List ℕ). span_of t y ++ l) n.same ∙ append-nil (span_of t y) ∙ s.same ∙ h }

-- ---- two views a and b without the zeros in front, or behind; x and y are the views that are left of them
module _ (t : List ℕ) (a b : Span) where
  pub front-none : {x y e : Span} → Stands t x (drop_while is_zero (span_of t a)) → x.digits ≡ 0 → Stands t y (drop_while is_zero (span_of t b)) → Empty e
      → StandsPair t (y, e) (drop_while is_zero (span_of t a ++ span_of t b))
  front-none sx z sy q = pair_one t sy q (sym (while-append-none is_zero (span_of t a) (span_of t b) (none_left sx z)))

  pub front-some : {x : Span} → Stands t x (drop_while is_zero (span_of t a)) → (x.digits ≡ 0 → ⊥) → IsSpan t b
      → StandsPair t (x, b) (drop_while is_zero (span_of t a ++ span_of t b))
  front-some sx h ib =
      record {
        one = sx.is;
        two = ib;
        same = ap (λ (l : List ℕ). l ++ span_of t b) sx.same ∙ sym (while-append-some is_zero (span_of t a) (span_of t b) (some_left sx h));
      }

  pub back_none : {x y e : Span} → Stands t y (drop_back is_zero (span_of t b)) → y.digits ≡ 0 → Stands t x (drop_back is_zero (span_of t a)) → Empty e
      → StandsPair t (x, e) (drop_back is_zero (span_of t a ++ span_of t b))
  back_none sy z sx q = pair_one t sx q (sym (back-append-none is_zero (span_of t a) (span_of t b) (none_left sy z)))

  pub back_some : {y : Span} → Stands t y (drop_back is_zero (span_of t b)) → (y.digits ≡ 0 → ⊥) → IsSpan t a
      → StandsPair t (a, y) (drop_back is_zero (span_of t a ++ span_of t b))
  back_some sy h ia =
      record {
        one = ia;
        two = sy.is;
        same = ap (λ (l : List ℕ). span_of t a ++ l) sy.same ∙ sym (back-append-some is_zero (span_of t a) (span_of t b) (some_left sy h));
      }

-- ---- two views p with x zeros behind, or in front, of the digits l
module _ (t : List ℕ) (p : Span × Span) (l : List ℕ) (x : ℕ) {r : ℕ} (q : r ≡ cond (eqb p.0.digits 0) (cond (eqb p.1.digits 0) 0 x) x) where
  pub int-stands : StandsPair t p (drop_while is_zero l)
      → StandsExp t (record { leading_zeros = 0; part1 = p.0; part2 = p.1; trailing_zeros = r }) (drop_while is_zero (l ++ zeros x))
  unfolding digits_exp_of
  int-stands s =
      record {
        is = record { one = s.one; two = s.two };
        same =
            sym (append_assoc (span_of t p.0) (span_of t p.1) (zeros r))
            ∙ ap (λ (n : ℕ). (span_of t p.0 ++ span_of t p.1) ++ zeros n)
            (only-if (span_of t p.0) (span_of t p.1) x s.one.count s.two.count q)
            ∙ int-zeros (span_of t p.0 ++ span_of t p.1) l x s.same;
      }

  pub frac-stands : StandsPair t p (drop_back is_zero l)
      → StandsExp t (record { leading_zeros = r; part1 = p.0; part2 = p.1; trailing_zeros = 0 }) (drop_back is_zero (zeros x ++ l))
  unfolding digits_exp_of
  frac-stands s =
      record {
        is = record { one = s.one; two = s.two };
        same =
            ap (λ (k : List ℕ). zeros r ++ (span_of t p.0 ++ k)) (append-nil (span_of t p.1))
            ∙ ap (λ (n : ℕ). zeros n ++ (span_of t p.0 ++ span_of t p.1))
            (only-if (span_of t p.0) (span_of t p.1) x s.one.count s.two.count q)
            ∙ frac-zeros (span_of t p.0 ++ span_of t p.1) l x s.same;
      }
