-- A run of digits, and what the scan makes of it: it takes the whole run in one go. Before the mark there are two parts, told apart
-- by a Bool: false for the whole part, true for the fraction. Assumes nothing.
use Rattle.std.specs.Prelude.{◌≡◌, Bool, cond, ◌&&◌, ◌||◌, ℕ, zero, suc, ◌+◌, length, take, drop}
use Rattle.std.proofs.Math.Path.{refl, ap}
use Rattle.std.proofs.Common.{sym, ◌∙◌, add-zero, arith, eqb-true}
use Rattle.std.proofs.Math.Bool.{true, false}
use Rattle.std.proofs.lemmas.Bool.{false≢true}
use mathlib.Core.List.{List, [], ◌∷◌, ◌++◌, map, append_assoc, append-nil}
use Rattle.std.proofs.Math.Dec.{eqb}
use Rattle.digits.specs.Meaning.{digits_of, is_und}
use Rattle.grammar.specs.Meaning.{digit_of, Written, is_radix, with_digit}
use Rattle.grammar.specs.Automaton.{is_digit, NumberPart, whole, fraction, Seen, digit, at, Sep, Skip, Error, step, scan, on_other, on_underscore}
use Rattle.grammar.specs.Class.{digit-plain}

-- the digits of a run, as numbers
unfoldable pub digit_values : List ℕ → List ℕ
digit_values t = map digit_of (digits_of t)

-- the digits of a stretch of text: those of its bytes other than `_` and the point
unfoldable pub body_of : List ℕ → List ℕ
body_of [] = []
body_of (b ∷ t) = cond (eqb b 95 || eqb b 46) (body_of t) (digit_of b ∷ body_of t)

abbrev pub sep_of : Bool → Sep
sep_of true = Skip
sep_of false = Error

-- a byte that goes on in a run
abbrev pub in_run : Bool → ℕ → ℕ → Bool
in_run skip radix b = is_digit radix b || (skip && eqb b 95)

-- how many bytes the rest of a run has, and how many a run has: it starts with a digit
unfoldable pub run_more : Bool → ℕ → List ℕ → ℕ
run_more skip radix [] = 0
run_more skip radix (b ∷ t) = cond (in_run skip radix b) (suc (run_more skip radix t)) 0

unfoldable pub run_len : Bool → ℕ → List ℕ → ℕ
run_len skip radix [] = 0
run_len skip radix (b ∷ t) = cond (is_digit radix b) (suc (run_more skip radix t)) 0

-- the part before the mark
abbrev pub part_of : Bool → NumberPart
part_of false = whole
part_of true = fraction

-- a run of digits appended
abbrev pub with_digits : Bool → Written → List ℕ → Written
with_digits p x ds = record { neg = x.neg; digits = x.digits ++ ds; after = x.after + cond p (length ds) 0; base = x.base; down = x.down; exp = x.exp }

-- what was read of a part after a run of n bytes
unfoldable pub seen_after : ℕ → Seen → Seen
seen_after zero q = q
seen_after (suc n) q = digit

-- the digits of a run, from its first byte
pub values-digit : (b : ℕ) (t : List ℕ) → eqb b 95 ≡ false → digit_values (b ∷ t) ≡ digit_of b ∷ digit_values t
unfolding digit_values digits_of is_und
values-digit b t e = rw e

pub values-under : (b : ℕ) (t : List ℕ) → eqb b 95 ≡ true → digit_values (b ∷ t) ≡ digit_values t
unfolding digit_values digits_of is_und
values-under b t e = rw e

pub both : (a b : Bool) → (a && b) ≡ true → (a ≡ true) × (b ≡ true)
both true b e = (refl, e)
both false b e = absurd (false≢true e)

-- nothing appended, one digit appended, and one more in front
no-digits : (p : Bool) (x : Written) → x ≡ with_digits p x []
no-digits true x = rw (append-nil x.digits, add-zero x.after)
no-digits false x = rw (append-nil x.digits, add-zero x.after)

one-digit : (p : Bool) (x : Written) (d : ℕ) (ds : List ℕ) → with_digits p (with_digit x d (cond p 1 0)) ds ≡ with_digits p x (d ∷ ds)
one-digit true x d ds =
    rw (append_assoc x.digits (d ∷ []) ds)
    (ap (λ (n : ℕ). record { neg = x.neg; digits = x.digits ++ (d ∷ ds); after = n; base = x.base; down = x.down; exp = x.exp }) count)
  where
    count : x.after + 1 + length ds ≡ x.after + length (d ∷ ds)
    count = omega arith
one-digit false x d ds =
    rw (append_assoc x.digits (d ∷ []) ds)
    (ap (λ (n : ℕ). record { neg = x.neg; digits = x.digits ++ (d ∷ ds); after = n; base = x.base; down = x.down; exp = x.exp }) count)
  where
    count : x.after + 0 + 0 ≡ x.after + 0
    count = omega arith

no-values : (p : Bool) (x : Written) → x ≡ with_digits p x (digit_values [])
unfolding digit_values digits_of
no-values p x = no-digits p x

-- ---- the scan over a run
module _ (skip : Bool) (radix : ℕ) (legal : is_radix radix ≡ true) where
  digit-step : (p : Bool) (b : ℕ) (q : Seen) (x : Written) → is_digit radix b ≡ true
      → step (sep_of skip) radix b (part_of p) q x ≡ at (part_of p) digit (with_digit x (digit_of b) (cond p 1 0))
  unfolding step on_other
  digit-step false b q x h =
      let n = digit-plain radix b legal h in
      simp (n.no_sign, n.no-point, n.no-under, n.no-mark, h)
  digit-step true b q x h =
      let n = digit-plain radix b legal h in
      simp (n.no_sign, n.no-point, n.no-under, n.no-mark, h)

  -- a `_` that is skipped
  under-step : (p : Bool) (b : ℕ) (x : Written) → skip ≡ true → b ≡ 95 → step (sep_of skip) radix b (part_of p) digit x ≡ at (part_of p) digit x
  unfolding step on_underscore
  under-step false b x t e = rw (t, e)
  under-step true b x t e = rw (t, e)

  -- the rest of a run, once a digit was read
  pub scan-more :
      (p : Bool) (t : List ℕ) (x : Written) →
      scan (sep_of skip) radix t (at (part_of p) digit x)
      ≡ scan (sep_of skip) radix (drop (run_more skip radix t) t) (at (part_of p) digit (with_digits p x (digit_values (take (run_more skip radix t) t))))
  unfolding run_more scan
  scan-more p [] x = ap (at (part_of p) digit) (no-values p x)
  scan-more p (b ∷ t) x = go (is_digit radix b) (skip && eqb b 95) refl refl (λ y. scan-more p t y)
    where
      go : (d v : Bool) → is_digit radix b ≡ d → (skip && eqb b 95) ≡ v →
          ((y : Written) → scan (sep_of skip) radix t (at (part_of p) digit y)
          ≡ scan (sep_of skip) radix (drop (run_more skip radix t) t) (at (part_of p) digit (with_digits p y (digit_values (take (run_more skip radix t) t))))) →
          scan (sep_of skip) radix t (step (sep_of skip) radix b (part_of p) digit x)
          ≡ scan (sep_of skip) radix (drop (cond (d || v) (suc (run_more skip radix t)) 0) (b ∷ t))
          (at (part_of p) digit (with_digits p x (digit_values (take (cond (d || v) (suc (run_more skip radix t)) 0) (b ∷ t)))))
      go true v e f more =
          ap (scan (sep_of skip) radix t) (digit-step p b digit x e)
          ∙ more (with_digit x (digit_of b) (cond p 1 0))
          ∙ ap (λ (y : Written). scan (sep_of skip) radix (drop (run_more skip radix t) t) (at (part_of p) digit y))
          (one-digit p x (digit_of b) (digit_values (take (run_more skip radix t) t))
          ∙ ap (with_digits p x) (sym (values-digit b (take (run_more skip radix t) t) (digit-plain radix b legal e).no-under)))
      go false true e f more =
          ap (scan (sep_of skip) radix t) (under-step p b x (both skip (eqb b 95) f).0 (eqb-true b 95 (both skip (eqb b 95) f).1))
          ∙ more x
          ∙ ap (λ (ds : List ℕ). scan (sep_of skip) radix (drop (run_more skip radix t) t) (at (part_of p) digit (with_digits p x ds)))
          (sym (values-under b (take (run_more skip radix t) t) (both skip (eqb b 95) f).1))
      go false false e f more = ap (λ (y : Written). scan (sep_of skip) radix t (step (sep_of skip) radix b (part_of p) digit y)) (no-values p x)

  -- a run from its first byte: what was read of the part is a digit now, unless there is no run
  pub scan-run :
      (p : Bool) (t : List ℕ) (q : Seen) (x : Written) →
      scan (sep_of skip) radix t (at (part_of p) q x)
      ≡ scan (sep_of skip) radix (drop (run_len skip radix t) t)
      (at (part_of p) (seen_after (run_len skip radix t) q) (with_digits p x (digit_values (take (run_len skip radix t) t))))
  unfolding run_len scan seen_after
  scan-run p [] q x = ap (at (part_of p) q) (no-values p x)
  scan-run p (b ∷ t) q x = go (is_digit radix b) refl
    where
      go : (d : Bool) → is_digit radix b ≡ d →
          scan (sep_of skip) radix t (step (sep_of skip) radix b (part_of p) q x)
          ≡ scan (sep_of skip) radix (drop (cond d (suc (run_more skip radix t)) 0) (b ∷ t))
          (at (part_of p) (seen_after (cond d (suc (run_more skip radix t)) 0) q)
          (with_digits p x (digit_values (take (cond d (suc (run_more skip radix t)) 0) (b ∷ t)))))
      go true e =
          ap (scan (sep_of skip) radix t) (digit-step p b q x e)
          ∙ scan-more p t (with_digit x (digit_of b) (cond p 1 0))
          ∙ ap (λ (y : Written). scan (sep_of skip) radix (drop (run_more skip radix t) t) (at (part_of p) digit y))
          (one-digit p x (digit_of b) (digit_values (take (run_more skip radix t) t))
          ∙ ap (with_digits p x) (sym (values-digit b (take (run_more skip radix t) t) (digit-plain radix b legal e).no-under)))
      go false e = ap (λ (y : Written). scan (sep_of skip) radix t (step (sep_of skip) radix b (part_of p) q y)) (no-values p x)
