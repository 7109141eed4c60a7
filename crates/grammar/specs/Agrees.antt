-- The automaton reads what the meaning reads: part by part, each byte by its class, by induction over the bytes. Assumes nothing.
use Rattle.std.specs.Prelude.{◌≡◌, Bool, ◌||◌, not, ℕ, ◌+◌, ◌*◌, leb, length, get_or}
use Rattle.std.proofs.Math.Path.{refl, sym, ap}
use Rattle.std.proofs.Common.{◌∙◌, subst, true≢false, eqb-true}
use Rattle.std.proofs.Math.Bool.{true, false, cond}
use mathlib.Core.List.{List, [], ◌∷◌, ◌++◌}
use Rattle.std.proofs.Math.Dec.{eqb}
use Rattle.format.specs.declared.Manner.{Manner}
use Rattle.format.specs.declared.Manner.TheVariants.{Strict}
use Rattle.format.specs.Meaning.{Sign, Outcome, refused, unless, fault_of}
use Rattle.grammar.specs.Meaning.{digit_of, is_sign, is_mark, Written, Reading, number, unread, exp_limit, at_end}
use Rattle.grammar.specs.Meaning.{after_sign, exponent_from, digits_from, plain_reading, blank, with_digit, with_exp}
use Rattle.grammar.specs.Meaning.{literal_minus, literal_body, after_prefix, literal_radix, literal_reading, outcome_of, is_radix, text_limit, read_of, literal_of}
use Rattle.grammar.specs.Automaton.{is_digit, base_of, whole, fraction, exponent, Seen, nothing, digit, Scan, at, refuse, Sep, Skip, Error}
use Rattle.grammar.specs.Automaton.{on_sign, on_point, on_underscore, on_mark, on_exp_digit, on_other, plain_scan, literal_scan, reading_of, read_scan}
use Rattle.grammar.specs.Accepted.{Says, ends-says, plain-ends, literal-ends}
use Rattle.grammar.specs.Class.{class_of}
use Rattle.grammar.specs.Run.{sep_of, part_of}
use Rattle.grammar.specs.Reading.{reading, on_class, read_next, read-refused, read-end, opened, sign_first}
use Rattle.grammar.specs.Reading.{read-unsigned, read-sign, read-exponent-unsigned, read-exponent-sign}
use Rattle.grammar.specs.Reading.{exp_seen, exp_at, exp_end, read-exp-end}
use Rattle.grammar.specs.declared.byte.Class.TheVariants.{Sign as SignByte, Point, Underscore, Mark, Other}

-- what is no sign, `+` or `-`, is no `-`
pub or_right : (a b : Bool) → (a || b) ≡ false → b ≡ false
or_right true b h = absurd (true≢false h)
or_right false b h = h

-- a point is no mark, and no decimal digit
point-mark : (radix : ℕ) → is_mark radix 46 ≡ false
unfolding is_mark
point-mark radix = refl

point-digit : is_digit 10 46 ≡ false
unfolding digit_of
point-digit = refl

-- what the meaning does with `_`
abbrev underscore : Bool → Bool → ℕ → Reading → Reading
underscore skip seen n rest = cond skip (cond seen rest (unread 14)) (unread n)

module _ (skip : Bool) (radix : ℕ) where
  abbrev k : Sep
  k = sep_of skip

  -- ---- the exponent
  end-agrees : (x : Written) (e : ℕ) (seen : Bool) → at_end (with_exp x x.down e) seen ≡ reading k radix [] (exp_at seen x e)
  unfolding exp_end
  end-agrees x e seen = go (eqb (length x.digits) 0) seen ∙ sym (read-exp-end k radix seen x e)
    where
      y : Written
      y = record { neg = x.neg; digits = x.digits; after = x.after; base = x.base; down = x.down; exp = e }

      go : (z seen : Bool) → cond z (unread 11) (cond (not seen) (unread 17) (number y)) ≡ exp_end z seen y
      go true seen = refl
      go false true = refl
      go false false = refl

  module _ (b : ℕ) (t : List ℕ) (x : Written) (e : ℕ) where
    abbrev here : Written
    here = with_exp x x.down e

    abbrev next : ℕ
    next = e * 10 + digit_of b

    abbrev after : Scan → Reading
    after = reading k radix t

    exp-sign-agrees : (minus seen : Bool) → unread 12 ≡ after (on_sign minus exponent (exp_seen seen) here)
    unfolding on_sign
    exp-sign-agrees minus true = sym (read-refused k radix t 12)
    exp-sign-agrees minus false = sym (read-refused k radix t 12)

    under-agrees : (skip seen : Bool) {o : Reading} → o ≡ reading (sep_of skip) radix t (exp_at seen x e)
        → underscore skip seen 16 o ≡ reading (sep_of skip) radix t (on_underscore (sep_of skip) exponent (exp_seen seen) here)
    unfolding on_underscore
    under-agrees true true same = same
    under-agrees true false same = sym (read-refused Skip radix t 14)
    under-agrees false seen same = sym (read-refused Error radix t 16)

    -- what the meaning does with a byte of no other class, v the reading after a digit
    abbrev on_exp_byte : Reading → Reading
    on_exp_byte v = cond (not (is_digit 10 b)) (unread 16) (cond (not (leb next (exp_limit x.down))) (unread 19) v)

    digit-agrees : {v : Reading} → v ≡ after (exp_at true x next) → on_exp_byte v ≡ after (on_other radix b exponent here)
    unfolding on_other on_exp_digit
    digit-agrees {v} more = go (is_digit 10 b) (leb next (exp_limit x.down))
      where
        go : (g l : Bool) → cond (not g) (unread 16) (cond (not l) (unread 19) v) ≡ after (cond g (cond l (exp_at true x next) (refuse 19)) (refuse 16))
        go true true = more
        go true false = sym (read-refused k radix t 19)
        go false l = sym (read-refused k radix t 16)

    -- o where the reading goes on as before
    byte-agrees : (seen : Bool) {o v : Reading} → o ≡ after (exp_at seen x e) → v ≡ after (exp_at true x next)
        → cond (is_sign b) (unread 12) (cond (eqb b 95) (underscore skip seen 16 o) (cond (is_mark radix b) (unread 18) (on_exp_byte v)))
        ≡ reading k radix (b ∷ t) (exp_at seen x e)
    unfolding class_of on_class on_point on_mark
    byte-agrees seen {o} {v} same more =
        go (is_sign b) (eqb b 46) (eqb b 95) (is_mark radix b) refl refl refl ∙ sym (read_next k radix b t exponent (exp_seen seen) here)
      where
        go : (s d u m : Bool) → eqb b 46 ≡ d → eqb b 95 ≡ u → is_mark radix b ≡ m
            → cond s (unread 12) (cond u (underscore skip seen 16 o) (cond m (unread 18) (on_exp_byte v)))
            ≡ after (on_class (cond s SignByte (cond d Point (cond u Underscore (cond m (Mark (base_of radix b)) Other)))) k radix b exponent (exp_seen seen) here)
        go true d u m p q r = exp-sign-agrees (eqb b 45) seen
        go false true true m p q r = absurd (true≢false (sym q ∙ ap (λ (c : ℕ). eqb c 95) (eqb-true b 46 p)))
        go false true false true p q r = absurd (true≢false (sym r ∙ ap (is_mark radix) (eqb-true b 46 p) ∙ point-mark radix))
        go false true false false p q r = rw (ap (is_digit 10) (eqb-true b 46 p) ∙ point-digit) (sym (read-refused k radix t 16))
        go false false true m p q r = under-agrees skip seen same
        go false false false true p q r = sym (read-refused k radix t 18)
        go false false false false p q r = digit-agrees more

  exponent-agrees : (x : Written) (e : ℕ) (seen : Bool) (t : List ℕ)
      → exponent_from skip radix (with_exp x x.down e) seen t ≡ reading k radix t (exp_at seen x e)
  unfolding exponent_from
  exponent-agrees x e seen [] = end-agrees x e seen
  exponent-agrees x e seen (b ∷ t) = byte-agrees b t x e seen (exponent-agrees x e seen t) (exponent-agrees x (e * 10 + digit_of b) true t)

  -- ---- the digits: before the mark nothing is known of an exponent
  abbrev plain : Bool → List ℕ → ℕ → Written
  plain neg ds after = record { neg = neg; digits = ds; after = after; base = 1; down = false; exp = 0 }

  -- the exponent's sign, or none
  module _ (neg : Bool) (ds : List ℕ) (after base : ℕ) where
    abbrev marked : Bool → Written
    marked down = record { neg = neg; digits = ds; after = after; base = base; down = down; exp = 0 }

    mark-agrees : (t : List ℕ) → exponent_from skip radix (marked (eqb (get_or t 0 0) 45)) false (after_sign t)
        ≡ reading k radix t (at exponent nothing (marked false))
    unfolding sign_first
    mark-agrees [] = exponent-agrees (marked false) 0 false [] ∙ sym (read-exponent-unsigned k radix [] (marked false) refl)
    mark-agrees (c ∷ t) = go (is_sign c) refl
      where
        go : (s : Bool) → is_sign c ≡ s → exponent_from skip radix (marked (eqb c 45)) false (cond s t (c ∷ t)) ≡ reading k radix (c ∷ t)
            (at exponent nothing (marked false))
        go true h = exponent-agrees (marked (eqb c 45)) 0 false t ∙ sym (read-exponent-sign k radix c t (marked false) h)
        go false h =
            ap (λ (d : Bool). exponent_from skip radix (marked d) false (c ∷ t)) (or_right (eqb c 43) (eqb c 45) h)
            ∙ exponent-agrees (marked false) 0 false (c ∷ t) ∙ sym (read-exponent-unsigned k radix (c ∷ t) (marked false) h)

  -- what the automaton has seen of a part
  abbrev seen_of : Bool → Bool → Seen
  seen_of point true = digit
  seen_of point false = opened point

  module _ (b : ℕ) (t : List ℕ) (neg : Bool) (ds : List ℕ) (after : ℕ) where
    abbrev x : Written
    x = plain neg ds after

    abbrev rest : Scan → Reading
    rest = reading k radix t

    sign-agrees : (minus point seen : Bool) → unread 12 ≡ rest (on_sign minus (part_of point) (seen_of point seen) x)
    unfolding on_sign
    sign-agrees minus true true = sym (read-refused k radix t 12)
    sign-agrees minus true false = sym (read-refused k radix t 12)
    sign-agrees minus false true = sym (read-refused k radix t 12)
    sign-agrees minus false false = sym (read-refused k radix t 12)

    point_agrees : (point : Bool) {o : Reading} → o ≡ rest (at fraction nothing x) → cond point (unread 15) o ≡ rest (on_point (part_of point) x)
    unfolding on_point
    point_agrees true same = sym (read-refused k radix t 15)
    point_agrees false same = same

    separator-agrees : (skip point seen : Bool) {o : Reading} → o ≡ reading (sep_of skip) radix t (at (part_of point) (seen_of point seen) x)
        → underscore skip seen 13 o ≡ reading (sep_of skip) radix t (on_underscore (sep_of skip) (part_of point) (seen_of point seen) x)
    unfolding on_underscore
    separator-agrees true point true same = same
    separator-agrees true true false same = sym (read-refused Skip radix t 14)
    separator-agrees true false false same = sym (read-refused Skip radix t 14)
    separator-agrees false true seen same = sym (read-refused Error radix t 13)
    separator-agrees false false seen same = sym (read-refused Error radix t 13)

    marks-agrees : (base : ℕ) (point : Bool)
        → exponent_from skip radix (marked neg ds after base (eqb (get_or t 0 0) 45)) false (after_sign t) ≡ rest (on_mark base (part_of point) x)
    unfolding on_mark
    marks-agrees base true = mark-agrees neg ds after base t
    marks-agrees base false = mark-agrees neg ds after base t

    last-agrees : (point : Bool) {v : Reading} → v ≡ rest (at (part_of point) digit (with_digit x (digit_of b) (cond point 1 0)))
        → cond (not (is_digit radix b)) (unread 13) v ≡ rest (on_other radix b (part_of point) x)
    unfolding on_other
    last-agrees true {v} more = go (is_digit radix b)
      where
        go : (g : Bool) → cond (not g) (unread 13) v ≡ rest (cond g (at fraction digit (with_digit x (digit_of b) 1)) (refuse 13))
        go true = more
        go false = sym (read-refused k radix t 13)
    last-agrees false {v} more = go (is_digit radix b)
      where
        go : (g : Bool) → cond (not g) (unread 13) v ≡ rest (cond g (at whole digit (with_digit x (digit_of b) 0)) (refuse 13))
        go true = more
        go false = sym (read-refused k radix t 13)

    -- o where the reading goes on as before, p past a point, v after a digit
    digits-byte : (point seen : Bool) {o p v : Reading} → o ≡ rest (at (part_of point) (seen_of point seen) x) → p ≡ rest (at fraction nothing x)
        → v ≡ rest (at (part_of point) digit (with_digit x (digit_of b) (cond point 1 0)))
        → cond (is_sign b) (unread 12)
        (cond (eqb b 46) (cond point (unread 15) p)
        (cond (eqb b 95) (underscore skip seen 13 o)
        (cond (is_mark radix b) (exponent_from skip radix (marked neg ds after (base_of radix b) (eqb (get_or t 0 0) 45)) false (after_sign t))
        (cond (not (is_digit radix b)) (unread 13) v))))
        ≡ reading k radix (b ∷ t) (at (part_of point) (seen_of point seen) x)
    unfolding class_of on_class
    digits-byte point seen {o} {p} {v} same past more =
        go (is_sign b) (eqb b 46) (eqb b 95) (is_mark radix b) ∙ sym (read_next k radix b t (part_of point) (seen_of point seen) x)
      where
        go : (s d u m : Bool) →
            cond s (unread 12)
            (cond d (cond point (unread 15) p)
            (cond u (underscore skip seen 13 o)
            (cond m (exponent_from skip radix (marked neg ds after (base_of radix b) (eqb (get_or t 0 0) 45)) false (after_sign t))
            (cond (not (is_digit radix b)) (unread 13) v))))
            ≡ rest (on_class (cond s SignByte (cond d Point (cond u Underscore (cond m (Mark (base_of radix b)) Other)))) k radix b (part_of point)
            (seen_of point seen) x)
        go true d u m = sign-agrees (eqb b 45) point seen
        go false true u m = point_agrees point past
        go false false true m = separator-agrees skip point seen same
        go false false false true = marks-agrees (base_of radix b) point
        go false false false false = last-agrees point more

  pub digits-agrees : (neg : Bool) (ds : List ℕ) (after : ℕ) (point seen : Bool) (t : List ℕ)
      → digits_from skip radix (plain neg ds after) point seen t ≡ reading k radix t (at (part_of point) (seen_of point seen) (plain neg ds after))
  unfolding digits_from
  digits-agrees neg ds after point seen [] = sym (read-end k radix point (seen_of point seen) (plain neg ds after))
  digits-agrees neg ds after point seen (b ∷ t) =
      digits-byte b t neg ds after point seen (digits-agrees neg ds after point seen t) (digits-agrees neg ds after true false t)
      (digits-agrees neg (ds ++ (digit_of b ∷ [])) (after + cond point 1 0) point true t)

-- ---- the two readers
pub plain-agrees : (radix : ℕ) (t : List ℕ) → plain_reading radix t ≡ reading Error radix t (at whole nothing (blank false))
unfolding plain_reading sign_first
plain-agrees radix [] = digits-agrees false radix false [] 0 false false [] ∙ sym (read-unsigned Error radix [] (blank false) refl)
plain-agrees radix (c ∷ t) = go (is_sign c) refl
  where
    go : (s : Bool) → is_sign c ≡ s → digits_from false radix (blank (eqb c 45)) false false (cond s t (c ∷ t)) ≡ reading Error radix (c ∷ t)
        (at whole nothing (blank false))
    go true h = digits-agrees false radix (eqb c 45) [] 0 false false t ∙ sym (read-sign Error radix c t h)
    go false h =
        ap (λ (n : Bool). digits_from false radix (blank n) false false (c ∷ t)) (or_right (eqb c 43) (eqb c 45) h)
        ∙ digits-agrees false radix false [] 0 false false (c ∷ t) ∙ sym (read-unsigned Error radix (c ∷ t) (blank false) h)

pub plain-scanned : (radix : ℕ) (t : List ℕ) → plain_reading radix t ≡ reading_of (plain_scan radix t)
unfolding reading plain_scan
plain-scanned radix t = plain-agrees radix t

pub literal-scanned : (s : Sign) (t : List ℕ) → literal_reading s t ≡ reading_of (literal_scan s t)
unfolding reading literal_reading literal_scan
literal-scanned s t = digits-agrees true (literal_radix s t) (literal_minus s t) [] 0 false false (after_prefix (literal_body s t))

-- what they can come to
pub plain-says : (radix : ℕ) (t : List ℕ) → Says radix (plain_reading radix t)
plain-says radix t = subst (Says radix) (sym (plain-scanned radix t)) (ends-says (plain-ends radix t))

pub literal-says : (s : Sign) (t : List ℕ) → Says (literal_radix s t) (literal_reading s t)
literal-says s t = subst (Says (literal_radix s t)) (sym (literal-scanned s t)) (ends-says (literal-ends s t))

-- ---- the readers' outcomes by the automaton
unfoldable pub scan_of : Manner → Sign → ℕ → ℕ → ℕ → List ℕ → Outcome
scan_of k s w f radix t =
    unless (fault_of w f) (cond (is_radix radix) (cond (leb (length t) text_limit) (read_scan k s w f radix (plain_scan radix t)) (refused 4)) (refused 3))

unfoldable pub literal_scan_of : Sign → ℕ → ℕ → List ℕ → Outcome
literal_scan_of s w f t = unless (fault_of w f) (cond (leb (length t) text_limit) (read_scan Strict s w f (literal_radix s t) (literal_scan s t)) (refused 4))

outcome-scanned : (k : Manner) (s : Sign) (w f radix : ℕ) (r : Scan) → outcome_of k s w f radix (reading_of r) ≡ read_scan k s w f radix r
unfolding outcome_of reading_of read_scan
outcome-scanned k s w f radix (at p q x) = refl
outcome-scanned k s w f radix (refuse n) = refl

pub read-scan-of : (k : Manner) (s : Sign) (w f radix : ℕ) (t : List ℕ) → read_of k s w f radix t ≡ scan_of k s w f radix t
unfolding read_of scan_of
read-scan-of k s w f radix t =
    ap (λ (o : Outcome). unless (fault_of w f) (cond (is_radix radix) (cond (leb (length t) text_limit) o (refused 4)) (refused 3)))
    (ap (outcome_of k s w f radix) (plain-scanned radix t) ∙ outcome-scanned k s w f radix (plain_scan radix t))

pub literal-scan-of : (s : Sign) (w f : ℕ) (t : List ℕ) → literal_of s w f t ≡ literal_scan_of s w f t
unfolding literal_of literal_scan_of
literal-scan-of s w f t =
    ap (λ (o : Outcome). unless (fault_of w f) (cond (leb (length t) text_limit) o (refused 4)))
    (ap (outcome_of Strict s w f (literal_radix s t)) (literal-scanned s t) ∙ outcome-scanned Strict s w f (literal_radix s t) (literal_scan s t))
