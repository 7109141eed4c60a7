-- Laws of the spans of a text: where the view of a part lies in the text, and which digits the parts of a split stand for. Assumes nothing.
use mathlib.Core.Path.{◌≡◌, refl, sym, ap, subst, ◌∙◌}
use mathlib.Core.List.{List, [], ◌∷◌, ◌++◌, append_assoc}
use Prim.Native.Nat.{ℕ, zero, suc, ◌+◌, ◌-◌, ◌≤◌}
use native.Mathlib.Nat.{sub-zero, zero-sub, suc-sub-suc}
use native.Mathlib.Omega.{arith}
use lib.ListN.{length, take, drop, length-take, length-drop, length-append, take-append-drop}
use lib.Seq.{take-nil, take-take, drop-drop}
use Rattle.laws.specs.Lists.{part}
use Rattle.digits_exp.specs.declared.Span.{Span}
use Rattle.digits.specs.Meaning.{is_und, is_zero, digits_of, take_while, drop_while, drop_back, trimmed, unds_front}
use Rattle.digits.specs.Meaning.{unds_back, StartsWithNo, IsView, head_of, tail_of, leading_zeros, trailing_zeros}
use Rattle.digits.specs.Runs.{while-length, middle, take_head, drop_head, head-length}
use Rattle.digits.specs.Theorems.{new-whole, trimmed-view, view-trimmed, trimmed-digits, head-digits, tail-digits}
use Rattle.digits.specs.Theorems.{leading-within, trailing-within, leading-left, trailing-left}
use Rattle.digits_exp.specs.Meaning.{span_of, IsSpan, Stands}
use Rattle.digits_exp.specs.Inner.{Empty, Held}

-- ---- a span that a type holds
pub is-held : {t : List ℕ} {s : Span} → Held t s → IsSpan t s
is-held h = record { view = subst IsView h.0 (trimmed-view _); count = h.1 }

pub held-is : {t : List ℕ} {s : Span} → IsSpan t s → Held t s
held-is h = (view-trimmed _ h.view, h.count)

-- ---- a part of the text
pub part-within : (t : List ℕ) (a e : ℕ) → length (part t a e) ≤ length t - a
part-within t a e = simp (length-take, length-drop) (omega arith)

part_room : (t : List ℕ) (a e : ℕ) → length (part t a e) ≤ e - a
part_room t a e = simp (length-take, length-drop) (omega arith)

drop-take : (k m : ℕ) (l : List ℕ) → drop k (take m l) ≡ take (m - k) (drop k l)
drop-take zero m l = rw (sub-zero m)
drop-take (suc k) zero l = sym (ap (λ (j : ℕ). take j (drop (suc k) l)) (zero-sub (suc k)))
drop-take (suc k) (suc m) [] = sym (take-nil (suc m - suc k))
drop-take (suc k) (suc m) (b ∷ l) = drop-take k m l ∙ ap (λ (j : ℕ). take j (drop k l)) (sym (suc-sub-suc m k))

-- ---- the view of a part lies in the text behind the `_` in front
trim-lies : (t u : List ℕ) (a e : ℕ) → u ≡ part t a e
    → drop a t ≡ take_while is_und u ++ (trimmed u ++ (unds_back u ++ drop (e - a) (drop a t)))
unfolding unds_front
trim-lies t u a e q =
    let z = drop (e - a) (drop a t) in
    sym
    (ap (λ (l : List ℕ). take_while is_und u ++ l) (sym (append_assoc (trimmed u) (unds_back u) z))
    ∙ sym (append_assoc (take_while is_und u) (trimmed u ++ unds_back u) z)
    ∙ ap (λ (l : List ℕ). l ++ z) (new-whole u ∙ q) ∙ take-append-drop (e - a) (drop a t))

trimmed-length : (u : List ℕ) → length (take_while is_und u) + length (trimmed u) ≤ length u
unfolding unds_front
trimmed-length u =
    omega (
      arith,
      ap length (new-whole u),
      length-append (take_while is_und u) (trimmed u ++ unds_back u),
      length-append (trimmed u) (unds_back u),
    )

module _ (t : List ℕ) (a e : ℕ) {u v : List ℕ} {f : ℕ} (eu : u ≡ part t a e) (ef : f ≡ length (take_while is_und u)) (ev : v ≡ trimmed u) where
  trim-at : part t (a + f) (a + f + length v) ≡ v
  trim-at =
      let k : a + f + length v - (a + f) ≡ length v = omega arith in
      ap (λ (n : ℕ). take n (drop (a + f) t)) k ∙ ap (take (length v)) (sym (drop-drop f a t) ∙ ap (drop f) (trim-lies t u a e eu))
      ∙ rw (ef, ev) (middle (take_while is_und u) (trimmed u) (unds_back u ++ drop (e - a) (drop a t)))

  -- its places are in the text, so they fit where the text's own do
  pub trim_start : a + f ≤ a + (length t - a)
  trim_start = omega (arith, part-within t a e, ap length eu, while-length is_und u)

  pub trim_end : a + f + length v ≤ a + (length t - a)
  trim_end = omega (arith, part-within t a e, ap length eu, ap length ev, trimmed-length u)

  pub trim-stands : {n : ℕ} → n ≡ length (digits_of v) → Stands t (record { from = a + f; to = a + f + length v; digits = n }) (digits_of (part t a e))
  unfolding span_of
  trim-stands q =
      record {
        is = record { view = subst IsView (sym (trim-at ∙ ev)) (trimmed-view u); count = q ∙ ap (λ (l : List ℕ). length (digits_of l)) (sym trim-at) };
        same = ap digits_of (trim-at ∙ ev) ∙ trimmed-digits u ∙ ap digits_of eu;
      }

-- ---- a split of the part u at its digit number n, which ends after p bytes
module _ (t : List ℕ) (a e n : ℕ) {u : List ℕ} {p : ℕ} (eu : u ≡ part t a e) (ep : p ≡ length (head_of u n)) where
  part-upto : part t a (a + p) ≡ head_of u n
  part-upto =
      let k : a + p - a ≡ p = omega arith in
      let h : p ≤ e - a = omega (arith, head-length u n, ap length eu, part_room t a e) in
      ap (λ (m : ℕ). take m (drop a t)) k ∙ sym (take-take p (e - a) (drop a t) h) ∙ ap (take p) (sym eu) ∙ ap (λ (m : ℕ). take m u) ep ∙ take_head u n

  part-from : part t (a + p) e ≡ tail_of u n
  part-from =
      let k : e - (a + p) ≡ e - a - p = omega arith in
      ap (λ (m : ℕ). take m (drop (a + p) t)) k ∙ ap (take (e - a - p)) (sym (drop-drop p a t)) ∙ sym (drop-take p (e - a) (drop a t))
      ∙ ap (drop p) (sym eu) ∙ ap (λ (m : ℕ). drop m u) ep ∙ drop_head u n

  pub split-within : a + p ≤ a + (length t - a)
  split-within = omega (arith, head-length u n, ap length eu, part-within t a e)

  pub upto-stands : {r : Span} → Stands t r (digits_of (part t a (a + p))) → Stands t r (take n (digits_of (part t a e)))
  upto-stands s = record { is = s.is; same = s.same ∙ ap digits_of part-upto ∙ head-digits u n ∙ ap (λ (l : List ℕ). take n (digits_of l)) eu }

  pub from-stands : {r : Span} → Stands t r (digits_of (part t (a + p) e)) → Stands t r (drop n (digits_of (part t a e)))
  from-stands s = record { is = s.is; same = s.same ∙ ap digits_of part-from ∙ tail-digits u n ∙ ap (λ (l : List ℕ). drop n (digits_of l)) eu }

-- ---- the view with no digits, a view as it is, and other words for the same digits
empty-span : {r : Span} → Empty r → r ≡ record { from = 0; to = 0; digits = 0 }
empty-span {r} q = rw (q.0, q.1.0, q.1.1)

pub empty_stands : (t : List ℕ) {r : Span} → Empty r → Stands t r []
unfolding span_of StartsWithNo digits_of
empty_stands t q =
    subst (λ (r : Span). Stands t r []) (sym (empty-span q))
    (record { is = record { view = record { front = tt; back = tt }; count = refl }; same = refl })

pub self-stands : {t : List ℕ} {s : Span} → IsSpan t s → Stands t s (span_of t s)
self-stands h = record { is = h; same = refl }

pub stands-as : {t : List ℕ} {s : Span} {d d' : List ℕ} → Stands t s d → d ≡ d' → Stands t s d'
stands-as h e = record { is = h.is; same = h.same ∙ e }

-- ---- the zeros z at an end of the view v of a span
module _ (t : List ℕ) (s : Span) {v : List ℕ} {z : ℕ} (is : IsSpan t s) (ev : v ≡ part t s.from s.to) where
  module _ (ez : z ≡ leading_zeros (digits_of v)) where
    leading-of : z ≡ leading_zeros (span_of t s)
    unfolding span_of
    leading-of = ez ∙ ap (λ (l : List ℕ). leading_zeros (digits_of l)) ev

    pub leading-fits : z ≤ s.digits
    leading-fits = omega (arith, leading-of, leading-within (span_of t s), is.count)

    pub leading-stands : {r : Span} → Stands t r (drop z (span_of t s)) → Stands t r (drop_while is_zero (span_of t s))
    leading-stands h = stands-as h (ap (λ (k : ℕ). drop k (span_of t s)) leading-of ∙ leading-left (span_of t s))

  module _ (ez : z ≡ trailing_zeros (digits_of v)) where
    trailing-of : z ≡ trailing_zeros (span_of t s)
    unfolding span_of
    trailing-of = ez ∙ ap (λ (l : List ℕ). trailing_zeros (digits_of l)) ev

    pub trailing-fits : z ≤ s.digits
    trailing-fits = omega (arith, trailing-of, trailing-within (span_of t s), is.count)

    pub trailing-stands : {r : Span} → Stands t r (take (s.digits - z) (span_of t s)) → Stands t r (drop_back is_zero (span_of t s))
    trailing-stands h =
        let k : s.digits - z ≡ length (span_of t s) - trailing_zeros (span_of t s) = omega (arith, trailing-of, is.count) in
        stands-as h (ap (λ (n : ℕ). take n (span_of t s)) k ∙ trailing-left (span_of t s))
