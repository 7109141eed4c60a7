-- What the scanner's answer stands for: the digits of its runs in the text. Assumes nothing.
use Rattle.std.specs.Prelude.{◌≡◌, Result, Ok, Err, Bool, ◌&&◌, ℕ, suc, ◌+◌, ◌-◌, ◌≤◌, ◌<◌, length, take, drop, get_or}
use Rattle.std.proofs.Math.Path.{refl, sym, ap, ap₂, subst}
use Rattle.std.proofs.Common.{◌∙◌, arith, add-one, drop_of_length-le, length-append, drop-cons, eq-eqb, ne_eqb, eqb-true}
use Rattle.std.proofs.Math.Bool.{true, false, cond}
use mathlib.Core.List.{List, ◌++◌}
use Rattle.std.proofs.Math.Dec.{eqb, ltb}
use Rattle.std.proofs.lemmas.Bool.{eqb-false, ltb-true, ltb-false}
use Rattle.std.proofs.lemmas.List.{take_rest, get_or_default}
use Rattle.format.specs.declared.refusal.Refusal.{Refusal}
use Rattle.format.specs.declared.refusal.Refusal.TheVariants.{NoDigits, MisplacedSign, InvalidDigit, TooManyPoints, ExpNoDigits}
use Rattle.format.specs.Meaning.{number as number_of}
use Rattle.grammar.specs.Meaning.{is_sign, Written, Reading, number, unread, with_exp}
use Rattle.grammar.specs.Automaton.{at, exponent, nothing, sign}
use Rattle.grammar.specs.Reading.{reading, exp_at, exp_end, read-exp-end, read-refused, sign_first, read-exponent-sign, read-exponent-unsigned}
use Rattle.laws.specs.Lists.{part}
use Rattle.grammar.specs.Run.{sep_of, digit_values, body_of}
use Rattle.grammar.specs.declared.byte.Class.{Class}
use Rattle.grammar.specs.declared.byte.Class.TheVariants.{Sign, Point, Underscore, Mark, Other}
use Rattle.run.specs.declared.Run.{Run}
use Rattle.exponent.specs.Exponent.{ExpStep, exp_scan, exp_step_of, read-exp}
use Rattle.scan.specs.After.{after_run, under_number}
use Rattle.scan.specs.declared.Parsed.{Parsed}

-- what the scanner finds: a number's places, or the refusal
abbrev pub Found : Type 0
Found = Result Parsed Refusal

-- the digits of a run
abbrev pub run_digits : List ℕ → Run → List ℕ
run_digits t r = digit_values (part t r.from r.to)

-- the number that the places stand for
unfoldable pub written_of : List ℕ → Parsed → Written
written_of t p =
    record {
      neg = p.neg;
      digits = run_digits t p.whole ++ run_digits t p.frac;
      after = length (run_digits t p.frac);
      base = p.base;
      down = p.down;
      exp = p.exp;
    }

-- the whole part alone
abbrev pub whole_of : List ℕ → Bool → Run → Written
whole_of t neg r = record { neg = neg; digits = run_digits t r; after = 0; base = 1; down = false; exp = 0 }

-- the ends of a text, before the mark and after it
unfoldable pub no_digits : Parsed → Bool
no_digits p = eqb p.whole.digits 0 && eqb p.frac.digits 0

unfoldable pub unmarked_of : Parsed → Found
unmarked_of p = cond (no_digits p) (Err NoDigits) (Ok p)

abbrev pub with_exponent : Parsed → ℕ → Parsed
with_exponent p e = record { neg = p.neg; whole = p.whole; frac = p.frac; base = p.base; down = p.down; exp = e }

abbrev pub with_down : Parsed → Bool → Parsed
with_down p d = record { neg = p.neg; whole = p.whole; frac = p.frac; base = p.base; down = d; exp = p.exp }

abbrev pub with_mark_base : Parsed → ℕ → Parsed
with_mark_base p b = record { neg = p.neg; whole = p.whole; frac = p.frac; base = b; down = p.down; exp = p.exp }

unfoldable pub exp_end_of : Parsed → Bool → ℕ → Found
exp_end_of p seen e = cond (no_digits p) (Err NoDigits) (cond seen (Ok (with_exponent p e)) (Err ExpNoDigits))

-- a run's count is that of its digits
abbrev pub Counted : List ℕ → Run → Type 0
Counted t r = r.digits ≡ length (run_digits t r)

-- From the first digit of a number to the last there is one stretch of text, which has the digits of both runs.
pub record Stretch (t : List ℕ) (w f : Run) : Type 0 where
  pub start : w.from ≤ f.to
  pub end : f.to ≤ length t
  pub both : body_of (part t w.from f.to) ≡ run_digits t w ++ run_digits t f

-- what is carried from part to part
pub record Ready (t : List ℕ) (p : Parsed) : Type 0 where
  pub whole-counted : Counted t p.whole
  pub frac-counted : Counted t p.frac
  pub small : p.exp ≤ 2147483648
  pub stretch : Stretch t p.whole p.frac

-- the answer is what the scan comes to, and its counts and its stretch are right
pub data Finds (t : List ℕ) : Found → Reading → Type 0 where
  finds : {p : Parsed} {y : Reading} → y ≡ number (written_of t p) → Ready t p → Finds t (Ok p) y
  refuses : {e : Refusal} {y : Reading} → y ≡ unread (number_of e) → Finds t (Err e) y

-- ---- what the scan makes of the exponent's bytes, u the text behind the sign, w what the whole comes to
module _ (skip : Bool) (radix : ℕ) (u : List ℕ) (i : ℕ) (x : Written) (seen : Bool) (e : ℕ) {w : Reading}
    (inv : reading (sep_of skip) radix (drop i u) (exp_at seen x e) ≡ w) where
  exp-more : i < length u → reading (sep_of skip) radix (drop (i + 1) u) (exp_scan (exp_step_of skip radix seen x.down e (get_or u i 0)) x) ≡ w
  exp-more h =
      ap (λ (k : ℕ). reading (sep_of skip) radix (drop k u) (exp_scan (exp_step_of skip radix seen x.down e (get_or u i 0)) x)) (add-one i)
      ∙ sym (read-exp skip radix (get_or u i 0) x e seen (drop (suc i) u))
      ∙ ap (λ (l : List ℕ). reading (sep_of skip) radix l (exp_at seen x e)) (sym (drop-cons u i 0 h)) ∙ inv

  pub exp-next : {s : ExpStep} {v : ℕ} → i < length u → s ≡ exp_step_of skip radix seen x.down e (get_or u i 0) → s ≡ Ok v
      → reading (sep_of skip) radix (drop (i + 1) u) (exp_at true x v) ≡ w
  unfolding exp_scan
  exp-next h q g = ap (λ (s : ExpStep). reading (sep_of skip) radix (drop (i + 1) u) (exp_scan s x)) (sym g ∙ q) ∙ exp-more h

  pub exp-stop : (t : List ℕ) {s : ExpStep} {n : Refusal} → i < length u → s ≡ exp_step_of skip radix seen x.down e (get_or u i 0) → s ≡ Err n → Finds t (Err n) w
  unfolding exp_scan
  exp-stop t {n = n} h q g =
      refuses (sym (exp-more h) ∙ ap (λ (s : ExpStep). reading (sep_of skip) radix (drop (i + 1) u) (exp_scan s x)) (sym q ∙ g)
      ∙ read-refused (sep_of skip) radix (drop (i + 1) u) (number_of n))

  pub exp-over : length u ≤ i → w ≡ exp_end (eqb (length x.digits) 0) seen (with_exp x x.down e)
  exp-over h = sym inv ∙ ap (λ (l : List ℕ). reading (sep_of skip) radix l (exp_at seen x e)) (drop_of_length-le u h) ∙ read-exp-end (sep_of skip) radix seen x e

-- ---- the ends of the text, with the counts
none_both : (a b : ℕ) → (eqb a 0 && eqb b 0) ≡ eqb (a + b) 0
none_both a b = go (eqb a 0) (eqb b 0) refl refl
  where
    go : (g h : Bool) → eqb a 0 ≡ g → eqb b 0 ≡ h → (g && h) ≡ eqb (a + b) 0
    go true true e f = sym (eq-eqb (a + b) 0 (omega (arith, eqb-true a 0 e, eqb-true b 0 f)))
    go true false e f = sym (ne_eqb (a + b) 0 (λ z. eqb-false b 0 f (omega arith)))
    go false h e f = sym (ne_eqb (a + b) 0 (λ z. eqb-false a 0 e (omega arith)))

module _ (t : List ℕ) (p : Parsed) (ready : Ready t p) where
  no-digits-is : no_digits p ≡ eqb (length (written_of t p).digits) 0
  unfolding no_digits written_of
  no-digits-is =
      ap₂ (λ (a b : ℕ). eqb a 0 && eqb b 0) ready.whole-counted ready.frac-counted
      ∙ none_both (length (run_digits t p.whole)) (length (run_digits t p.frac))
      ∙ ap (λ (n : ℕ). eqb n 0) (sym (length-append (run_digits t p.whole) (run_digits t p.frac)))

  exp-written : (e : ℕ) → number (with_exp (written_of t p) (written_of t p).down e) ≡ number (written_of t (with_exponent p e))
  unfolding written_of
  exp-written e = refl

  ready-exp : (e : ℕ) → e ≤ 2147483648 → Ready t (with_exponent p e)
  ready-exp e l = record { whole-counted = ready.whole-counted; frac-counted = ready.frac-counted; small = l; stretch = ready.stretch }

  pub finds-unmarked : {r : Found} {w : Reading} → r ≡ unmarked_of p → w ≡ cond (eqb (length (written_of t p).digits) 0) (unread 11) (number (written_of t p))
      → Finds t r w
  unfolding unmarked_of number_of
  finds-unmarked {r} {w} q e = go (no_digits p) q (e ∙ ap (λ (g : Bool). cond g (unread 11) (number (written_of t p))) (sym no-digits-is))
    where
      go : (g : Bool) → r ≡ cond g (Err NoDigits) (Ok p) → w ≡ cond g (unread 11) (number (written_of t p)) → Finds t r w
      go true q e = subst (λ (f : Found). Finds t f w) (sym q) (refuses e)
      go false q e = subst (λ (f : Found). Finds t f w) (sym q) (finds e ready)

  pub finds-exp-end :
      {r : Found} {w : Reading} (seen : Bool) (e : ℕ) → e ≤ 2147483648 → r ≡ exp_end_of p seen e →
      w ≡ exp_end (eqb (length (written_of t p).digits) 0) seen (with_exp (written_of t p) (written_of t p).down e) → Finds t r w
  unfolding exp_end_of exp_end number_of
  finds-exp-end {r} {w} seen e l q z =
      go (no_digits p) seen q (z ∙ ap (λ (g : Bool). exp_end g seen (with_exp (written_of t p) (written_of t p).down e)) (sym no-digits-is))
    where
      go : (g seen : Bool) → r ≡ cond g (Err NoDigits) (cond seen (Ok (with_exponent p e)) (Err ExpNoDigits))
          → w ≡ exp_end g seen (with_exp (written_of t p) (written_of t p).down e) → Finds t r w
      go true seen q z = subst (λ (f : Found). Finds t f w) (sym q) (refuses z)
      go false true q z = subst (λ (f : Found). Finds t f w) (sym q) (finds (z ∙ exp-written e) (ready-exp e l))
      go false false q z = subst (λ (f : Found). Finds t f w) (sym q) (refuses z)

-- ---- where no sign stands
pub no-sign-at : (t : List ℕ) (from : ℕ) → from < length t → (get_or t from 0 ≡ 43 → ⊥) → (get_or t from 0 ≡ 45 → ⊥) → sign_first (drop from t) ≡ false
unfolding sign_first
no-sign-at t from h a b = rw (drop-cons t from 0 h, ne_eqb (get_or t from 0) 43 a, ne_eqb (get_or t from 0) 45 b)

pub no-sign-past : (t : List ℕ) (from : ℕ) → length t ≤ from → sign_first (drop from t) ≡ false
unfolding sign_first
no-sign-past t from h = rw (drop_of_length-le t h)

-- ---- a byte at a place, or none, as `get` finds it
pub inside : {i n : ℕ} → true ≡ ltb i n → i < n
inside {i} {n} e = ltb-true i n (sym e)

pub byte-at : (t : List ℕ) (i : ℕ) {b : ℕ} → true ≡ ltb i (length t) → b ≡ get_or t i b → b ≡ get_or t i 0
byte-at t i {b} h e = e ∙ get_or_default t i b 0 (inside h)

pub past : {i n : ℕ} → false ≡ ltb i n → n ≤ i
past {i} {n} e = ltb-false i n (sym e)

-- ---- from part to part
pub finds-by : (t : List ℕ) {r : Found} {y z : Reading} → y ≡ z → Finds t r y → Finds t r z
finds-by t {r} e f = subst (Finds t r) e f

-- where the exponent's digits begin
pub exp-begin : (t : List ℕ) (from : ℕ) (skip : Bool) (radix : ℕ) (p : Parsed)
    → reading (sep_of skip) radix (take (length t - from) (drop from t)) (exp_at false (written_of t p) p.exp)
    ≡ reading (sep_of skip) radix (drop from t) (at exponent sign (written_of t p))
unfolding written_of
exp-begin t from skip radix p = ap (λ (l : List ℕ). reading (sep_of skip) radix l (exp_at false (written_of t p) p.exp)) (take_rest t from)

-- the sign of the exponent, at `from`, or none
module _ (t : List ℕ) (from : ℕ) (skip : Bool) (radix : ℕ) (p : Parsed) where
  pub exp-signed :
      {q : Parsed} {r : Found} (d : Bool) → from < length t → is_sign (get_or t from 0) ≡ true → eqb (get_or t from 0) 45 ≡ d → q ≡ with_down p d →
      Finds t r (reading (sep_of skip) radix (drop (from + 1) t) (at exponent sign (written_of t q)))
      → Finds t r (reading (sep_of skip) radix (drop from t) (at exponent nothing (written_of t p)))
  unfolding written_of
  exp-signed d h s m e f =
      finds-by t
      (ap₂ (λ (k : ℕ) (q : Parsed). reading (sep_of skip) radix (drop k t) (at exponent sign (written_of t q))) (add-one from) e
      ∙ ap (λ (g : Bool). reading (sep_of skip) radix (drop (suc from) t) (at exponent sign (with_exp (written_of t p) g p.exp))) (sym m)
      ∙ sym (read-exponent-sign (sep_of skip) radix (get_or t from 0) (drop (suc from) t) (written_of t p) s)
      ∙ ap (λ (l : List ℕ). reading (sep_of skip) radix l (at exponent nothing (written_of t p))) (sym (drop-cons t from 0 h)))
      f

  pub exp-minus :
      {q : Parsed} {r : Found} → from < length t → get_or t from 0 ≡ 45 → q ≡ with_down p true →
      Finds t r (reading (sep_of skip) radix (drop (from + 1) t) (at exponent sign (written_of t q)))
      → Finds t r (reading (sep_of skip) radix (drop from t) (at exponent nothing (written_of t p)))
  exp-minus h b e f = exp-signed true h (rw b) (rw b) e f

  pub exp-plus :
      {q : Parsed} {r : Found} → from < length t → get_or t from 0 ≡ 43 → q ≡ with_down p false →
      Finds t r (reading (sep_of skip) radix (drop (from + 1) t) (at exponent sign (written_of t q)))
      → Finds t r (reading (sep_of skip) radix (drop from t) (at exponent nothing (written_of t p)))
  exp-plus h b e f = exp-signed false h (rw b) (rw b) e f

  unsigned : sign_first (drop from t) ≡ false → {r : Found} → Finds t r (reading (sep_of skip) radix (drop from t) (at exponent sign (written_of t p)))
      → Finds t r (reading (sep_of skip) radix (drop from t) (at exponent nothing (written_of t p)))
  unsigned h f = finds-by t (sym (read-exponent-unsigned (sep_of skip) radix (drop from t) (written_of t p) h)) f

  pub exp-bare :
      {r : Found} → from < length t → (get_or t from 0 ≡ 43 → ⊥) → (get_or t from 0 ≡ 45 → ⊥) →
      Finds t r (reading (sep_of skip) radix (drop from t) (at exponent sign (written_of t p)))
      → Finds t r (reading (sep_of skip) radix (drop from t) (at exponent nothing (written_of t p)))
  exp-bare h a b f = unsigned (no-sign-at t from h a b) f

  pub exp-nothing :
      {r : Found} → length t ≤ from → Finds t r (reading (sep_of skip) radix (drop from t) (at exponent sign (written_of t p)))
      → Finds t r (reading (sep_of skip) radix (drop from t) (at exponent nothing (written_of t p)))
  exp-nothing h f = unsigned (no-sign-past t from h) f

-- the class that a match found, and its refusals
module _ (t : List ℕ) (next : ℕ) (skip : Bool) (radix : ℕ) (p : Parsed) {c : Class} where
  pub after-sign : c ≡ Sign → Finds t (Err MisplacedSign) (after_run c skip radix (drop next t) (written_of t p))
  unfolding after_run number_of
  after-sign e = refuses (ap (λ (k : Class). after_run k skip radix (drop next t) (written_of t p)) e)

  pub after-point : c ≡ Point → Finds t (Err TooManyPoints) (after_run c skip radix (drop next t) (written_of t p))
  unfolding after_run number_of
  after-point e = refuses (ap (λ (k : Class). after_run k skip radix (drop next t) (written_of t p)) e)

  pub after-under : {n : Refusal} → c ≡ Underscore → number_of n ≡ under_number skip → Finds t (Err n) (after_run c skip radix (drop next t) (written_of t p))
  unfolding after_run
  after-under e q = refuses (ap (λ (k : Class). after_run k skip radix (drop next t) (written_of t p)) e ∙ ap unread (sym q))

  pub after-other : c ≡ Other → Finds t (Err InvalidDigit) (after_run c skip radix (drop next t) (written_of t p))
  unfolding after_run number_of
  after-other e = refuses (ap (λ (k : Class). after_run k skip radix (drop next t) (written_of t p)) e)

  pub after-mark :
      {base : ℕ} {q : Parsed} {r : Found} → c ≡ Mark base → q ≡ with_mark_base p base →
      Finds t r (reading (sep_of skip) radix (drop next t) (at exponent nothing (written_of t q)))
      → Finds t r (after_run c skip radix (drop next t) (written_of t p))
  unfolding after_run written_of
  after-mark {base} e q f =
      finds-by t
      (ap (λ (k : Parsed). reading (sep_of skip) radix (drop next t) (at exponent nothing (written_of t k))) q
      ∙ ap (λ (k : Class). after_run k skip radix (drop next t) (written_of t p)) (sym e))
      f
