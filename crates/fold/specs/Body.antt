-- The digits of a text as the code walks them: the bytes from the first digit to the last, without `_` and the point. Assumes nothing.
use Rattle.std.specs.Prelude.{◌≡◌, refl, Bool, true, false, cond, not, ◌||◌, ◌==◌, List, [], ◌∷◌, ℕ, ◌+◌, ◌*◌, ◌≤◌, ◌<◌, eqb, length, take, drop, get_or, Option, Some, None}
use mathlib.Core.List.Memᴰ
use mathlib.Core.List.{Memᴰ}
use Rattle.std.specs.List.{list_any}
use Rattle.std.specs.Option.{unwrap_or}
use Rattle.std.specs.Iterator.{YieldsFirst}
use Rattle.std.proofs.Common.{sym, ap, subst, take-append-drop, ◌∙◌, add-one, arith, take-suc, length-drop, get_or-drop, drop-drop}
use Rattle.grammar.specs.Meaning.{Written, digit_of}
use Rattle.grammar.specs.Naturals.{nat_of, nat_from-snoc}
use Rattle.grammar.specs.Run.{body_of}
use Rattle.fold.specs.declared.Folded.{Folded}
use Rattle.fold.specs.declared.body.Digits.{Digits}
use Rattle.fold.specs.Fold.{fold_of, folded_value, fold_step}

-- a byte between two digits: `_` or the point
abbrev pub is_gap : ℕ → Bool
is_gap b = eqb b 95 || eqb b 46

-- the digits that are still to come
unfoldable pub digits_left : Digits → List ℕ
digits_left d = body_of d.rest.now

-- whether any digit is not 0
abbrev pub any_of : List ℕ → Bool
any_of = list_any (λ d. not (d == 0))

-- ---- one byte
module _ (b : ℕ) (t : List ℕ) where
  pub body-gap : is_gap b ≡ true → body_of (b ∷ t) ≡ body_of t
  unfolding body_of
  body-gap e = rw e refl

  pub body-digit : is_gap b ≡ false → body_of (b ∷ t) ≡ digit_of b ∷ body_of t
  unfolding body_of
  body-digit e = rw e refl

-- there are no more digits than bytes
pub body-length : (t : List ℕ) → length (body_of t) ≤ length t
unfolding body_of
body-length [] = omega arith
body-length (b ∷ t) = go (is_gap b) (body-length t)
  where
    go : (g : Bool) → length (body_of t) ≤ length t → length (cond g (body_of t) (digit_of b ∷ body_of t)) ≤ length (b ∷ t)
    go true h = omega arith
    go false h = omega arith

-- ---- k digits are taken, and d is the next of them
module _ (ds : List ℕ) (k : ℕ) {d : ℕ} {es : List ℕ} (next : drop k ds ≡ d ∷ es) where
  digit_is : (k < length ds) × (d ≡ get_or ds k 0)
  digit_is = (
    omega (arith, ap length next, length-drop k ds),
    sym (ap (λ (l : List ℕ). get_or l 0 0) next) ∙ get_or-drop k ds 0 0 ∙ ap (λ (j : ℕ). get_or ds j 0) (omega arith),
  )

  pub rest-next : es ≡ drop (k + 1) ds
  rest-next = sym (ap (drop 1) next) ∙ drop-drop 1 k ds

  pub nat-next : (radix : ℕ) → nat_of radix (take (k + 1) ds) ≡ nat_of radix (take k ds) * radix + d
  nat-next radix =
      rw (add-one, take-suc ds k 0 digit_is.0) (nat_from-snoc radix (take k ds) (get_or ds k 0) 0)
      ∙ ap (λ (c : ℕ). nat_of radix (take k ds) * radix + c) (sym digit_is.1)

  pub number-next : (radix : ℕ) {x y : Folded} → 0 < radix → x ≡ fold_of (nat_of radix (take k ds)) → y ≡ fold_of (folded_value x * radix + d)
      → y ≡ fold_of (nat_of radix (take (k + 1) ds))
  number-next radix r e f =
      f ∙ ap (λ (z : Folded). fold_of (folded_value z * radix + d)) e ∙ fold_step (nat_of radix (take k ds)) radix d r ∙ ap fold_of (sym (nat-next radix))

-- the first digit as the code takes it, 0 where there is none
pub first-or : (ds es : List ℕ) {d : ℕ} (r : Option ℕ) → YieldsFirst (λ (l : List ℕ). l) ds r es → d ≡ unwrap_or r 0
    → (d ≡ get_or ds 0 0) × (es ≡ drop 1 ds)
first-or ds es None e f = (f ∙ ap (λ (l : List ℕ). get_or l 0 0) (sym e.0), e.1 ∙ sym (ap (drop 1) e.0))
first-or ds es (Some x) e f = (f ∙ sym (ap (λ (l : List ℕ). get_or l 0 0) e), sym (ap (drop 1) e))

-- a part has digits of the whole
pub drop-digits : {ds : List ℕ} {radix : ℕ} (k : ℕ) → ((d : ℕ) → Memᴰ d ds → d < radix) → (d : ℕ) → Memᴰ d (drop k ds) → d < radix
drop-digits {ds} {radix} k below d m = below d (subst (Memᴰ d) (take-append-drop k ds) (Memᴰ.append_right (take k ds) m))

-- ---- what was read, with these bytes as its digits. The sign plays no part in the raw
abbrev pub as_written : List ℕ → ℕ → ℕ → Bool → ℕ → Written
as_written t after base down exp = record { neg = false; digits = body_of t; after = after; base = base; down = down; exp = exp }
