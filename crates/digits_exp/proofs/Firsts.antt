-- The first digit of the second layer: where it stands, and what is left. Assumes nothing.
use mathlib.Core.Path.{◌≡◌, refl, sym, ap, ◌∙◌}
use mathlib.Core.List.{List, [], ◌∷◌, ◌++◌}
use Prim.Native.Nat.{ℕ, suc, ◌-◌, ◌≤◌, ◌<◌}
use native.Mathlib.Omega.{arith}
use lib.ListN.{length, get_or, drop}
use Rattle.laws.specs.Lists.{part}
use Rattle.laws.specs.Text.{zeros}
use Rattle.laws.specs.Lists.{no_length}
use Rattle.digits_exp.specs.declared.Span.{Span}
use Rattle.digits_exp.specs.declared.DigitsExp.{DigitsExp}
use Rattle.std.specs.Prelude.{Some, None}
use Rattle.digits.specs.Meaning.{is_und, digits_of, StartsWithNo}
use Rattle.digits_exp.specs.Meaning.{span_of, IsSpan, Stands, IsExp, digits_exp_of, first_digits, RestIs}
use Rattle.digits_exp.specs.Promise.{SplitFirst}

-- ---- the first byte of a view that has a digit is that digit
starts_with : (v : List ℕ) → StartsWithNo is_und v → 0 < length (digits_of v) → (0 < length v) × (get_or v 0 0 ∷ drop 1 (digits_of v) ≡ digits_of v)
unfolding StartsWithNo digits_of
starts_with [] h k = absurd (omega arith)
starts_with (b ∷ v) h k = (omega arith, rw h)

module _ (t : List ℕ) (s : Span) {v : List ℕ} (is : IsSpan t s) (some : 0 < s.digits) (e : v ≡ part t s.from s.to) where
  pub view-some : (0 < length v) × (get_or v 0 0 ∷ drop 1 (span_of t s) ≡ span_of t s)
  unfolding span_of
  view-some = rw e (starts_with (part t s.from s.to) is.view.front (omega (arith, is.count)))

-- ---- none, or one more
no-zeros : (n : ℕ) → n ≤ 0 → zeros n ≡ []
no-zeros n h = let e : n ≡ 0 = omega arith in ap zeros e

one-zero : (n : ℕ) → 0 < n → 48 ∷ zeros (n - 1) ≡ zeros n
one-zero n h = let e : suc (n - 1) ≡ n = omega arith in ap zeros e

no-digits : {t : List ℕ} {s : Span} → IsSpan t s → s.digits ≤ 0 → span_of t s ≡ []
no-digits {t} {s} is h = no_length (span_of t s) (omega (arith, is.count))

-- a list behind others that are empty
behind-one : {z a w : List ℕ} → z ≡ [] → a ≡ w → z ++ a ≡ w
behind-one {a = a} e f = ap (λ (l : List ℕ). l ++ a) e ∙ f

module _ (t : List ℕ) (x : DigitsExp) (is : IsExp t x) where
  -- a zero in front
  pub first-front : 0 < x.leading_zeros
      → SplitFirst t x (Some (48, record { leading_zeros = x.leading_zeros - 1; part1 = x.part1; part2 = x.part2; trailing_zeros = x.trailing_zeros }))
  unfolding first_digits RestIs digits_exp_of
  first-front h =
      record {
        same = ap (λ (l : List ℕ). l ++ (span_of t x.part1 ++ (span_of t x.part2 ++ zeros x.trailing_zeros))) (one-zero x.leading_zeros h);
        is = record { one = is.one; two = is.two };
      }

  module _ (z : x.leading_zeros ≤ 0) where
    -- the first digit c of the first view; r is what is left of it
    pub first_one : {c : ℕ} {r : Span} → c ∷ drop 1 (span_of t x.part1) ≡ span_of t x.part1 → Stands t r (drop 1 (span_of t x.part1))
        → SplitFirst t x (Some (c, record { leading_zeros = x.leading_zeros; part1 = r; part2 = x.part2; trailing_zeros = x.trailing_zeros }))
    unfolding first_digits RestIs digits_exp_of
    first_one {c} {r} e s =
        let y = span_of t x.part2 ++ zeros x.trailing_zeros in
        let n = no-zeros x.leading_zeros z in
        record {
          same =
              ap (λ (l : List ℕ). c ∷ l) (behind-one n (ap (λ (l : List ℕ). l ++ y) s.same)) ∙ ap (λ (l : List ℕ). l ++ y) e
              ∙ sym (behind-one n refl);
          is = record { one = s.is; two = is.two };
        }

    module _ (o : x.part1.digits ≤ 0) where
      -- of the second view
      pub first_two : {c : ℕ} {r : Span} → c ∷ drop 1 (span_of t x.part2) ≡ span_of t x.part2 → Stands t r (drop 1 (span_of t x.part2))
          → SplitFirst t x (Some (c, record { leading_zeros = x.leading_zeros; part1 = x.part1; part2 = r; trailing_zeros = x.trailing_zeros }))
      unfolding first_digits RestIs digits_exp_of
      first_two {c} {r} e s =
          let y = zeros x.trailing_zeros in
          let n = no-zeros x.leading_zeros z in
          let m = no-digits is.one o in
          record {
            same =
                ap (λ (l : List ℕ). c ∷ l) (behind-one n (behind-one m (ap (λ (l : List ℕ). l ++ y) s.same))) ∙ ap (λ (l : List ℕ). l ++ y) e
                ∙ sym (behind-one n (behind-one m refl));
            is = record { one = is.one; two = s.is };
          }

      module _ (w : x.part2.digits ≤ 0) where
        -- a zero behind
        pub first-behind : 0 < x.trailing_zeros
            → SplitFirst t x (Some (
              48,
              record {
                leading_zeros = x.leading_zeros;
                part1 = x.part1;
                part2 = x.part2;
                trailing_zeros = x.trailing_zeros - 1;
              },
            ))
        unfolding first_digits RestIs digits_exp_of
        first-behind h =
            let n = no-zeros x.leading_zeros z in
            let m = no-digits is.one o in
            let k = no-digits is.two w in
            record {
              same =
                  ap (λ (l : List ℕ). 48 ∷ l) (behind-one n (behind-one m (behind-one k refl))) ∙ one-zero x.trailing_zeros h
                  ∙ sym (behind-one n (behind-one m (behind-one k refl)));
              is = record { one = is.one; two = is.two };
            }

        pub first-none : x.trailing_zeros ≤ 0 → SplitFirst t x None
        unfolding first_digits RestIs digits_exp_of
        first-none h =
            let n = no-zeros x.leading_zeros z in
            let m = no-digits is.one o in
            let k = no-digits is.two w in
            record { same = sym (behind-one n (behind-one m (behind-one k (no-zeros x.trailing_zeros h)))); is = tt }
