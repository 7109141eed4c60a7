-- What is proved of the meaning of a text.
--   nearest         read-nearest, read-over, read-flag, read-minus, and of literals: a text that is taken gives the multiple of the step nearest to
--                   what is written, ties to even, if that fits, and overflow exactly if it does not
--   plain, literal  literal-plain, literal-as-plain, literal-reads: a literal reads as the plain text that it stands for
--   refusals        read-early, literal-early: 1, 2, 3, 4 in this order, each exactly by its condition
--   zeros           read-zeros, literal-zeros: every `0` appended after the point changes nothing
--   the number      read_same: only the number written matters; read-point, point-up, point-down: not where the point stands, if the exponent
--                   makes up for it
-- Assumes nothing.
use Rattle.std.specs.Prelude.{◌≡◌, ◌↔◌, Bool, cond, ℕ, ◌+◌, ◌*◌, ◌^◌, ◌≤◌, ◌<◌, ℤ, length}
use Rattle.std.proofs.Math.Path.{refl, subst}
use Rattle.std.proofs.Common.{sym, ap, ◌∙◌, inl, arith, length-append}
use Rattle.std.proofs.Math.Bool.{true, false}
use mathlib.Core.List.{List, ◌++◌, Memᴰ}
use Rattle.std.proofs.Math.Dec.{leb}
use Rattle.std.proofs.lemmas.List.{length-replicate}
use borrow.Author.Tests.{le-leb, lt-leb, leb-true, leb-false}
use Rattle.laws.specs.Nearest.{Nearest, nearest, nearest-unique}
use Rattle.laws.specs.Text.{zeros}
use Rattle.format.specs.declared.Manner.{Manner}
use Rattle.format.specs.declared.Manner.TheVariants.{Strict, Saturating, Wrapping, Overflowing}
use Rattle.format.specs.Meaning.{Sign, unsigned, Outcome, done, refused, is_width, fault_of, unless, fits, wrap, settle, with_sign, guarded}
use Rattle.format.specs.Theorems.{InRange, limit, in-fits}
use Rattle.format.proofs.Theorems.{settle-fits, strict-refuses, flag-set}
use Rattle.format.specs.Fault.{fault-free, width-bounds}
use Rattle.format.specs.Settle.{unless-none}
use Rattle.format.proofs.Limits.{within, fits-place}
use Rattle.grammar.specs.Meaning.{Written, Reading, number, plain_reading, literal_reading, outcome_of, after_prefix, literal_minus}
use Rattle.grammar.specs.Meaning.{literal_body, literal_radix, num, den, raw_of, text_limit, is_radix, read_of, literal_of, blank}
use Rattle.grammar.specs.Automaton.{Skip, Error, whole, nothing, sign, at, plain_scan, literal_scan, read_scan}
use Rattle.grammar.specs.Accepted.{Numbered, Says, says, says-not, says-numbered, plain-ends, literal-ends, radix-two, prefix-legal, sound-base}
use Rattle.grammar.specs.Agrees.{plain-says, literal-says, scan_of, literal_scan_of, read-scan-of, literal-scan-of}
use Rattle.grammar.specs.Pointed.{plain-fraction, literal-fraction}
use Rattle.grammar.specs.Rounding.{den_pos, same-fraction, ByRadix, upward, downward, same_place}
use Rattle.grammar.specs.Appended.{zeros-same, minus-zeros, body-zeros, prefix-zeros, after-zeros}
use Rattle.grammar.specs.Literals.{plain_text, plain-length, Opens, literal-number, literal-same, number-opens}

-- The plain reader takes t for the number x: no refusal applies to the format, the radix and the length, and the scan ends with x.
pub record Taken (w f radix : ℕ) (t : List ℕ) (x : Written) : Type 0 where
  pub format : fault_of w f ≡ 0
  pub legal : is_radix radix ≡ true
  pub short : length t ≤ text_limit
  pub scanned : plain_reading radix t ≡ number x

-- the same of the literal reader
pub record TakenLiteral (s : Sign) (w f : ℕ) (t : List ℕ) (x : Written) : Type 0 where
  pub format : fault_of w f ≡ 0
  pub short : length t ≤ text_limit
  pub scanned : literal_reading s t ≡ number x

some-width : (w f : ℕ) → fault_of w f ≡ 0 → 0 < w
some-width w f h = omega (arith, width-bounds w (fault-free w f h).0)

-- a number below 0 is in an unsigned range only if it is 0
minus-fits : (w m : ℕ) → InRange unsigned w (with_sign true m) ↔ (m ≡ 0)
unfolding limit
minus-fits w m =
    (λ h. omega (arith, leb-true m 0 (sym (fits-place unsigned w true m) ∙ in-fits h)), λ h. within unsigned w true m (omega arith))

unsigned-iff : (w m : ℕ) (neg : Bool) {A : Type 0} → neg ≡ true → (A ↔ (InRange unsigned w (with_sign neg m) → ⊥)) → A ↔ (m ≡ 0 → ⊥)
unsigned-iff w m neg t e = let e' = rw t at e in (λ a z. e'.0 a ((minus-fits w m).1 z), λ h. e'.1 (λ r. h ((minus-fits w m).0 r)))

-- ---- Nearest, ties to even. Let m be the whole number nearest to |t| x 2^F: |m x den - num x 2^F| is at most half of den, and m is even at a tie
-- (`Nearest` of laws). A reader that takes the text answers with m, the sign applied and the flag clear, if that fits; strict refuses with 10, and
-- overflowing sets the flag, exactly if it does not. "Unsigned and negative: overflow exactly if that rounded magnitude is not 0."
module _ {w f radix : ℕ} {t : List ℕ} {x : Written} (taken : Taken w f radix t x) where
  pub taken-sound : Numbered radix x
  taken-sound = says-numbered (subst (Says radix) taken.scanned (plain-says radix t))

  pub den-positive : 0 < den radix x
  den-positive = let r = radix-two radix taken.legal in den_pos radix x (omega arith) (sound-base (omega arith) taken-sound.sound)

  pub read_as : (k : Manner) (s : Sign) → read_of k s w f radix t ≡ settle k s w (with_sign x.neg (raw_of radix f x))
  unfolding read_of outcome_of
  read_as k s = unless-none (fault_of w f) _ taken.format ∙ rw (taken.legal, le-leb (length t) text_limit taken.short, taken.scanned)

  -- there is one
  pub rounded : Nearest (num radix x * 2 ^ f) (den radix x) (raw_of radix f x)
  unfolding raw_of
  rounded = nearest (num radix x * 2 ^ f) (den radix x) den-positive

  module _ (m : ℕ) (near : Nearest (num radix x * 2 ^ f) (den radix x) m) where
    -- and nothing else is
    pub rounded-only : raw_of radix f x ≡ m
    rounded-only = nearest-unique _ _ _ m den-positive rounded near

    pub read-nearest : (k : Manner) (s : Sign) → InRange s w (with_sign x.neg m) → read_of k s w f radix t ≡ done (with_sign x.neg m) false
    read-nearest k s h = read_as k s ∙ rw rounded-only (settle-fits s w (with_sign x.neg m) k (some-width w f taken.format) h)

    pub read-over : (s : Sign) → (read_of Strict s w f radix t ≡ refused 10) ↔ (InRange s w (with_sign x.neg m) → ⊥)
    read-over s = rw (read_as Strict s, rounded-only) (strict-refuses s w (with_sign x.neg m))

    pub read-flag : (s : Sign) → (read_of Overflowing s w f radix t ≡ done (wrap s w (with_sign x.neg m)) true) ↔ (InRange s w (with_sign x.neg m) → ⊥)
    read-flag s = rw (read_as Overflowing s, rounded-only) (flag-set s w (with_sign x.neg m))

    pub read-minus : x.neg ≡ true → (read_of Strict unsigned w f radix t ≡ refused 10) ↔ (m ≡ 0 → ⊥)
    read-minus n = unsigned-iff w m x.neg n (read-over unsigned)

-- ---- Plain and literal. A text with no `_` (95) and no prefix, that starts with no sign or with a `-` that the literal takes, reads the same as both,
-- refusals included. Where the literal reader takes the text, it starts so.
module _ (s : Sign) (t : List ℕ) (plain : Memᴰ 95 t → ⊥) (ten : literal_radix s t ≡ 10) where
  pub literal-plain : Opens s t → (w f : ℕ) → literal_of s w f t ≡ read_of Strict s w f 10 t
  unfolding literal_of read_of is_radix
  literal-plain o w f = rw (ten, literal-same s t plain ten o)

  pub literal-as-plain : {w f : ℕ} {x : Written} → TakenLiteral s w f t x → literal_of s w f t ≡ read_of Strict s w f 10 t
  literal-as-plain {w} {f} taken = literal-plain (number-opens s t plain ten taken.scanned) w f

-- With prefix and `_`: a literal that is taken reads as its sign and its body, without the prefix and every `_`, in the prefix's radix. So what is
-- proved above of plain texts holds of literals.
module _ {s : Sign} {w f : ℕ} {t : List ℕ} {x : Written} (taken : TakenLiteral s w f t x) where
  pub literal-taken : Taken w f (literal_radix s t) (plain_text s t) x
  literal-taken =
      record {
        format = taken.format;
        legal = prefix-legal (literal_body s t);
        short = omega (arith, taken.short, plain-length s t);
        scanned = literal-number s t taken.scanned;
      }

  pub literal-reads : literal_of s w f t ≡ read_of Strict s w f (literal_radix s t) (plain_text s t)
  unfolding literal_of outcome_of
  literal-reads =
      unless-none (fault_of w f) _ taken.format ∙ rw (le-leb (length t) text_limit taken.short, taken.scanned) (sym (read_as literal-taken Strict s))

  module _ (m : ℕ) (near : Nearest (num (literal_radix s t) x * 2 ^ f) (den (literal_radix s t) x) m) where
    pub literal-nearest : InRange s w (with_sign x.neg m) → literal_of s w f t ≡ done (with_sign x.neg m) false
    literal-nearest h = literal-reads ∙ read-nearest literal-taken m near Strict s h

    pub literal-over : (literal_of s w f t ≡ refused 10) ↔ (InRange s w (with_sign x.neg m) → ⊥)
    literal-over = rw literal-reads (read-over literal-taken m near s)

-- ---- The refusals before the text is read: 1, 2, 3, 4 in this order, each exactly if its condition holds and no earlier one's does.
pub data Early (w f radix : ℕ) (t : List ℕ) : ℕ → Type 0 where
  width : is_width w ≡ false → Early w f radix t 1
  frac : is_width w ≡ true → w < f → Early w f radix t 2
  base : is_width w ≡ true → f ≤ w → is_radix radix ≡ false → Early w f radix t 3
  size : is_width w ≡ true → f ≤ w → is_radix radix ≡ true → text_limit < length t → Early w f radix t 4

-- what is settled is refused with 10 only, and a scan with 11 to 19
settle-ten : (k : Manner) (s : Sign) (w : ℕ) (z : ℤ) {n : ℕ} → settle k s w z ≡ refused n → n ≡ 10
unfolding settle
settle-ten Strict s w z {n} e = go (fits s w z) e
  where
    go : (t : Bool) → cond t (done z false) (refused 10) ≡ refused n → n ≡ 10
    go true e = let z : ◌≡◌ {A = ℕ} 0 1 = cc in absurd (omega arith)
    go false e = cc
settle-ten Saturating s w z e = let z : ◌≡◌ {A = ℕ} 0 1 = cc in absurd (omega arith)
settle-ten Wrapping s w z e = let z : ◌≡◌ {A = ℕ} 0 1 = cc in absurd (omega arith)
settle-ten Overflowing s w z e = let z : ◌≡◌ {A = ℕ} 0 1 = cc in absurd (omega arith)

late : (k : Manner) (s : Sign) (w f radix : ℕ) {r : Reading} → Says radix r → (n : ℕ) → outcome_of k s w f radix r ≡ refused n → 10 ≤ n
unfolding outcome_of
late k s w f radix (says {x} h) n e = omega (arith, settle-ten k s w (with_sign x.neg (raw_of radix f x)) e)
late k s w f radix (says-not {n = m} l h) n e = let same : m ≡ n = cc in omega arith

module _ (w f radix : ℕ) (t : List ℕ) {o : Outcome} (later : (n : ℕ) → o ≡ refused n → 10 ≤ n) where
  -- the four tests of a reader, and then the text
  abbrev checked : Outcome
  checked = unless (fault_of w f) (cond (is_radix radix) (cond (leb (length t) text_limit) o (refused 4)) (refused 3))

  early-iff : (n : ℕ) → n < 10 → (checked ≡ refused n) ↔ Early w f radix t n
  unfolding fault_of guarded
  early-iff n h = (go (is_width w) (leb f w) (is_radix radix) (leb (length t) text_limit) refl refl refl refl, back)
    where
      go : (a b c d : Bool) → is_width w ≡ a → leb f w ≡ b → is_radix radix ≡ c → leb (length t) text_limit ≡ d
          → unless (cond a (cond b 0 2) 1) (cond c (cond d o (refused 4)) (refused 3)) ≡ refused n → Early w f radix t n
      go false b c d p q r u e = subst (Early w f radix t) (cc) (width p)
      go true false c d p q r u e = subst (Early w f radix t) (cc) (frac p (leb-false f w q))
      go true true false d p q r u e = subst (Early w f radix t) (cc) (base p (leb-true f w q) r)
      go true true true false p q r u e = subst (Early w f radix t) (cc) (size p (leb-true f w q) r (leb-false (length t) text_limit u))
      go true true true true p q r u e = absurd (omega (arith, later n e))

      back : {n : ℕ} → Early w f radix t n → checked ≡ refused n
      back (width p) = rw p
      back (frac p q) = rw (p, lt-leb f w q)
      back (base p q r) = rw (p, le-leb f w q, r)
      back (size p q r u) = rw (p, le-leb f w q, r, lt-leb (length t) text_limit u)

pub read-early : (k : Manner) (s : Sign) (w f radix : ℕ) (t : List ℕ) (n : ℕ) → n < 10 → (read_of k s w f radix t ≡ refused n) ↔ Early w f radix t n
unfolding read_of
read-early k s w f radix t n h = early-iff w f radix t (late k s w f radix (plain-says radix t)) n h

-- a literal has a legal radix, so 3 does not occur
pub literal-early : (s : Sign) (w f : ℕ) (t : List ℕ) (n : ℕ) → n < 10 → (literal_of s w f t ≡ refused n) ↔ Early w f (literal_radix s t) t n
unfolding literal_of
literal-early s w f t n h =
    let e = early-iff w f (literal_radix s t) t (late Strict s w f (literal_radix s t) (literal-says s t)) n h in
    rw (prefix-legal (literal_body s t)) at e

-- ---- Zeros after the point change nothing: a number that is written with a point (46) and without an exponent (its base is 1) reads the same with any
-- number of `0` after it.
pub read-zeros : (k : Manner) (s : Sign) (w f radix : ℕ) (t : List ℕ) (n : ℕ) {x : Written}
    → plain_reading radix t ≡ number x → Memᴰ 46 t → x.base ≡ 1 → length t + n ≤ text_limit → read_of k s w f radix (t ++ zeros n) ≡ read_of k s w f radix t
unfolding scan_of plain_scan
read-zeros k s w f radix t n {x} e point one h = read-scan-of k s w f radix (t ++ zeros n) ∙ go (is_radix radix) refl ∙ sym (read-scan-of k s w f radix t)
  where
    short : leb (length t) text_limit ≡ true
    short = le-leb (length t) text_limit (omega arith)

    long : leb (length (t ++ zeros n)) text_limit ≡ true
    long = le-leb (length (t ++ zeros n)) text_limit (omega (arith, length-append t (zeros n), length-replicate {A = ℕ} n 48))

    go : (legal : Bool) → is_radix radix ≡ legal
        → unless (fault_of w f) (cond legal (cond (leb (length (t ++ zeros n)) text_limit) (read_scan k s w f radix (plain_scan radix (t ++ zeros n))) (refused 4))
        (refused 3))
        ≡ unless (fault_of w f) (cond legal (cond (leb (length t) text_limit) (read_scan k s w f radix (plain_scan radix t)) (refused 4)) (refused 3))
    go false l = refl
    go true l =
        let r = radix-two radix l in
        let found = plain-fraction radix r t point e one in
        rw (short, long)
        (ap (unless (fault_of w f)) (zeros-same Error radix (omega arith) k s w f n found.0 x t (at whole nothing (blank false)) (plain-ends radix t)
        found.1))

pub literal-zeros : (s : Sign) (w f : ℕ) (t : List ℕ) (n : ℕ) {x : Written}
    → literal_reading s t ≡ number x → Memᴰ 46 t → x.base ≡ 1 → length t + n ≤ text_limit → literal_of s w f (t ++ zeros n) ≡ literal_of s w f t
unfolding literal_scan_of literal_scan
literal-zeros s w f t n {x} e point one h =
    let radix = literal_radix s t in
    let r = radix-two radix (prefix-legal (literal_body s t)) in
    let short = le-leb (length t) text_limit (omega arith) in
    let long = le-leb (length (t ++ zeros n)) text_limit (omega (arith, length-append t (zeros n), length-replicate {A = ℕ} n 48)) in
    let found = literal-fraction s t r point e one in
    let same = zeros-same Skip radix (omega arith) Strict s w f n found.0 x (after_prefix (literal_body s t)) (at whole sign (blank (literal_minus s t)))
    (literal-ends s t) found.1 in
    literal-scan-of s w f (t ++ zeros n)
    ∙ rw (short, long) (ap (unless (fault_of w f))
    (rw (body-zeros s t n, after-zeros (literal_body s t) n, prefix-zeros (literal_body s t) n, minus-zeros s t n) same))
    ∙ sym (literal-scan-of s w f t)

-- ---- Only the number matters: two texts, of whatever radix, with the same sign and the same fraction read the same.
module _ (k : Manner) (s : Sign) {w f r₁ r₂ : ℕ} {t u : List ℕ} {x y : Written} (a : Taken w f r₁ t x) (b : Taken w f r₂ u y) (neg : x.neg ≡ y.neg) where
  same-raw : raw_of r₁ f x ≡ raw_of r₂ f y → read_of k s w f r₁ t ≡ read_of k s w f r₂ u
  same-raw e =
      read_as a k s
      ∙ ap (λ (n : Bool). settle k s w (with_sign n (raw_of r₁ f x))) neg
      ∙ ap (λ (m : ℕ). settle k s w (with_sign y.neg m)) e
      ∙ sym (read_as b k s)

  pub read_same : num r₁ x * den r₂ y ≡ num r₂ y * den r₁ x → read_of k s w f r₁ t ≡ read_of k s w f r₂ u
  read_same e = same-raw (same-fraction r₁ r₂ f x y (den-positive a) (den-positive b) e)

-- So it does not depend on where the point stands, if the exponent makes up for it: with the same digits, and exponents that scale by the radix (or
-- are 0), two texts read the same if places after the point and exponent come to the same.
pub read-point : (k : Manner) (s : Sign) {w f radix : ℕ} {t u : List ℕ} {x y : Written} → Taken w f radix t x → Taken w f radix u y
    → ByRadix radix x → ByRadix radix y → x.neg ≡ y.neg → x.digits ≡ y.digits → x.after + downward x + upward y ≡ y.after + downward y + upward x
    → read_of k s w f radix t ≡ read_of k s w f radix u
read-point k s {w} {f} {radix} {x = x} {y} a b h l neg digits places =
    let r = radix-two radix a.legal in
    same-raw k s a b neg (same_place radix f x y (omega arith) h l digits places)

-- one place more after the point: the exponent goes up by one more, or down by one less
module _ (radix f : ℕ) (some : 0 < radix) (neg : Bool) (ds : List ℕ) (after e : ℕ) where
  abbrev pub written : ℕ → Bool → ℕ → Written
  written after down e = record { neg = neg; digits = ds; after = after; base = radix; down = down; exp = e }

  pub point-up : raw_of radix f (written (after + 1) false (e + 1)) ≡ raw_of radix f (written after false e)
  point-up = same_place radix f (written (after + 1) false (e + 1)) (written after false e) some (inl refl) (inl refl) refl (omega arith)

  pub point-down : raw_of radix f (written (after + 1) true e) ≡ raw_of radix f (written after true (e + 1))
  point-down = same_place radix f (written (after + 1) true e) (written after true (e + 1)) some (inl refl) (inl refl) refl (omega arith)
