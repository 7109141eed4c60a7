-- Where a text with a point ends: past its whole part, so in its fraction if it has no exponent; and a point of a literal stands in its body.
-- Assumes nothing.
use Rattle.std.specs.Prelude.{◌≡◌, refl, ◌⊎◌, Bool, true, false, cond, ℕ, ◌+◌, ◌*◌, ◌≤◌, leb, eqb}
use Rattle.std.proofs.Common.{sym, ap, ◌∙◌, inl, inr, arith, eqb-true}
use Rattle.std.proofs.Math.Path.{subst}
use Rattle.std.proofs.lemmas.Bool.{false≢true, eqb-false}
use mathlib.Core.List.Memᴰ
use mathlib.Core.List.{List, [], ◌∷◌, Memᴰ}
use Rattle.format.specs.Meaning.{Sign, signed, unsigned}
use Rattle.grammar.specs.Meaning.{is_sign, is_mark, Written, number, exp_limit, plain_reading, literal_minus, literal_body, prefix_mark}
use Rattle.grammar.specs.Meaning.{prefix_radix, drop_underscores, after_prefix, literal_radix, literal_reading, digit_of, blank}
use Rattle.grammar.specs.Automaton.{is_digit, base_of, NumberPart, whole, fraction, exponent, Seen}
use Rattle.grammar.specs.Automaton.{nothing, sign, digit, Scan, at, refuse, Sep, Skip, Error}
use Rattle.grammar.specs.Automaton.{on_sign, on_point, on_underscore, on_mark, on_exp_digit, on_other, step, scan, finish, plain_scan, literal_scan, reading_of}
use Rattle.grammar.specs.Accepted.{by-test, BaseIs, Sound, Ends, ends-sound, finish-at, number_at, plain-ends, literal-ends}
use Rattle.grammar.specs.Agrees.{plain-scanned, literal-scanned}
use Rattle.grammar.specs.Literals.{short-prefix, same-either}

-- ---- past the whole part: what is there stays there
abbrev past : NumberPart → Bool
past whole = false
past fraction = true
past exponent = true

pub data Past : Scan → Type 0 where
  past-at : {p : NumberPart} {q : Seen} {x : Written} → past p ≡ true → Past (at p q x)
  past-not : {n : ℕ} → Past (refuse n)

past-sign : (minus : Bool) (p : NumberPart) (q : Seen) (x : Written) → past p ≡ true → Past (on_sign minus p q x)
unfolding on_sign
past-sign minus whole q x h = absurd (false≢true h)
past-sign minus fraction q x h = past-not
past-sign minus exponent nothing x h = past-at refl
past-sign minus exponent sign x h = past-not
past-sign minus exponent digit x h = past-not

past-point : (p : NumberPart) (x : Written) → Past (on_point p x)
unfolding on_point
past-point whole x = past-at refl
past-point fraction x = past-not
past-point exponent x = past-not

past-underscore : (k : Sep) (p : NumberPart) (q : Seen) (x : Written) → past p ≡ true → Past (on_underscore k p q x)
unfolding on_underscore
past-underscore Error whole q x h = past-not
past-underscore Error fraction q x h = past-not
past-underscore Error exponent q x h = past-not
past-underscore Skip p nothing x h = past-not
past-underscore Skip p sign x h = past-not
past-underscore Skip p digit x h = past-at h

past-mark : (base : ℕ) (p : NumberPart) (x : Written) → Past (on_mark base p x)
unfolding on_mark
past-mark base whole x = past-at refl
past-mark base fraction x = past-at refl
past-mark base exponent x = past-not

past-other : (radix b : ℕ) (p : NumberPart) (x : Written) → past p ≡ true → Past (on_other radix b p x)
unfolding on_other on_exp_digit
past-other radix b whole x h = absurd (false≢true h)
past-other radix b fraction x h = by-test Past (is_digit radix b) (λ t. past-at refl) (λ t. past-not)
past-other radix b exponent x h =
    by-test Past (is_digit 10 b) (λ t. by-test Past (leb (x.exp * 10 + digit_of b) (exp_limit x.down)) (λ l. past-at refl) (λ l. past-not)) (λ t. past-not)

module _ (k : Sep) (radix : ℕ) where
  past-step : (b : ℕ) (p : NumberPart) (q : Seen) (x : Written) → past p ≡ true → Past (step k radix b p q x)
  unfolding step
  past-step b p q x h =
      by-test Past (is_sign b) (λ t. past-sign (eqb b 45) p q x h) (λ t.
      by-test Past (eqb b 46) (λ t. past-point p x) (λ t.
      by-test Past (eqb b 95) (λ t. past-underscore k p q x h) (λ t.
      by-test Past (is_mark radix b) (λ t. past-mark (base_of radix b) p x) (λ t. past-other radix b p x h))))

  past-scan : (t : List ℕ) {r : Scan} → Past r → Past (scan k radix t r)
  unfolding scan
  past-scan [] h = h
  past-scan (b ∷ t) (past-at {p} {q} {x} h) = past-scan t (past-step b p q x h)
  past-scan (b ∷ t) past-not = past-not

  -- a point is read in the whole part, and nowhere else
  point-step : (b : ℕ) (p : NumberPart) (q : Seen) (x : Written) → 46 ≡ b → Past (step k radix b p q x)
  unfolding step
  point-step b p q x e = subst (λ (c : ℕ). Past (step k radix c p q x)) e (past-point p x)

  point-scan : (t : List ℕ) (r : Scan) → Memᴰ 46 t → Past (scan k radix t r)
  unfolding scan
  point-scan [] r m = absurd (Memᴰ.not-nil m)
  point-scan (b ∷ t) (refuse n) m = past-not
  point-scan (b ∷ t) (at p q x) m = go (Memᴰ.cases_cons m) (λ m'. point-scan t (step k radix b p q x) m')
    where
      go : (46 ≡ b) ⊎ Memᴰ 46 t → (Memᴰ 46 t → Past (scan k radix t (step k radix b p q x))) → Past (scan k radix t (step k radix b p q x))
      go (inl e) rest = past-scan t (point-step b p q x e)
      go (inr m) rest = rest m

-- ---- in the fraction, if there is no exponent: what an exponent scales by is not 1
fraction-is : (radix : ℕ) (p : NumberPart) (q : Seen) (x : Written) → 2 ≤ radix → past p ≡ true → Sound radix p q x → x.base ≡ 1 → p ≡ fraction
unfolding BaseIs
fraction-is radix whole q x r h s e = absurd (false≢true h)
fraction-is radix fraction q x r h s e = refl
fraction-is radix exponent q x r h s e = go s.base-is
  where
    go : (x.base ≡ 2) ⊎ (x.base ≡ radix) → exponent ≡ fraction
    go (inl z) = absurd (omega arith)
    go (inr z) = absurd (omega arith)

past-part : {r : Scan} {p : NumberPart} {q : Seen} {x : Written} → r ≡ at p q x → Past r → past p ≡ true
past-part {p = p} {q} {x} e h = go (subst Past e h)
  where
    go : Past (at p q x) → past p ≡ true
    go (past-at h) = h

module _ (k : Sep) (radix : ℕ) (two : 2 ≤ radix) (t : List ℕ) (start : Scan) (point : Memᴰ 46 t) where
  in-fraction : (ends : Ends radix (finish (scan k radix t start))) {x : Written} → reading_of (finish (scan k radix t start)) ≡ number x → x.base ≡ 1
      → (q : Seen) × (finish (scan k radix t start) ≡ at fraction q x)
  in-fraction ends {x} e one =
      let found = number_at (finish (scan k radix t start)) e in
      let before = (finish-at (scan k radix t start) found.is).0 in
      let there = past-part before (point-scan k radix t start point) in
      let sound = ends-sound (subst (Ends radix) found.is ends) in
      (found.seen, found.is ∙ ap (λ (p : NumberPart). at p found.seen x) (fraction-is radix found.part found.seen x two there sound one))

pub plain-fraction : (radix : ℕ) → 2 ≤ radix → (t : List ℕ) → Memᴰ 46 t → {x : Written} → plain_reading radix t ≡ number x → x.base ≡ 1
    → (q : Seen) × (plain_scan radix t ≡ at fraction q x)
unfolding plain_scan
plain-fraction radix two t point e one =
    in-fraction Error radix two t (at whole nothing (blank false)) point (plain-ends radix t) (sym (plain-scanned radix t) ∙ e) one

-- ---- a literal's point stands in its body: neither its sign nor its prefix is one
body-point : (s : Sign) (t : List ℕ) → Memᴰ 46 t → Memᴰ 46 (literal_body s t)
unfolding literal_minus
body-point signed [] m = m
body-point signed (b ∷ t) m = go (eqb b 45) refl (Memᴰ.cases_cons m)
  where
    go : (c : Bool) → eqb b 45 ≡ c → (46 ≡ b) ⊎ Memᴰ 46 t → Memᴰ 46 (cond c t (b ∷ t))
    go true e (inl z) = absurd (omega (arith, eqb-true b 45 e))
    go true e (inr m) = m
    go false e h = m
body-point unsigned t m = m

underscores-point : (t : List ℕ) → Memᴰ 46 t → Memᴰ 46 (drop_underscores t)
unfolding drop_underscores
underscores-point [] m = m
underscores-point (b ∷ t) m = go (eqb b 95) refl (Memᴰ.cases_cons m) (underscores-point t)
  where
    go : (c : Bool) → eqb b 95 ≡ c → (46 ≡ b) ⊎ Memᴰ 46 t → (Memᴰ 46 t → Memᴰ 46 (drop_underscores t))
        → Memᴰ 46 (cond c (drop_underscores t) (b ∷ t))
    go true e (inl z) rest = absurd (omega (arith, eqb-true b 95 e))
    go true e (inr m) rest = rest m
    go false e h rest = m

first-point : (b : ℕ) (t : List ℕ) → prefix_radix (46 ∷ b ∷ t) ≡ 10
unfolding prefix_radix
first-point b t = refl

second-point : (a : ℕ) (t : List ℕ) → prefix_radix (a ∷ 46 ∷ t) ≡ 10
unfolding prefix_radix prefix_mark
second-point a t = sym (same-either (eqb a 48))

prefix-point : (t : List ℕ) → Memᴰ 46 t → Memᴰ 46 (after_prefix t)
prefix-point [] m = absurd (Memᴰ.not-nil m)
prefix-point (a ∷ []) m = rw (sym (short-prefix (a ∷ []) (omega arith))) m
prefix-point (a ∷ b ∷ t) m = go (eqb (prefix_radix (a ∷ b ∷ t)) 10) refl
  where
    second : eqb (prefix_radix (a ∷ b ∷ t)) 10 ≡ false → (46 ≡ b) ⊎ Memᴰ 46 t → Memᴰ 46 t
    second e (inl z) = absurd (eqb-false (prefix_radix (a ∷ b ∷ t)) 10 e (ap (λ (c : ℕ). prefix_radix (a ∷ c ∷ t)) (sym z) ∙ second-point a t))
    second e (inr m) = m

    first : eqb (prefix_radix (a ∷ b ∷ t)) 10 ≡ false → (46 ≡ a) ⊎ Memᴰ 46 (b ∷ t) → Memᴰ 46 t
    first e (inl z) = absurd (eqb-false (prefix_radix (a ∷ b ∷ t)) 10 e (ap (λ (c : ℕ). prefix_radix (c ∷ b ∷ t)) (sym z) ∙ first-point b t))
    first e (inr m) = second e (Memᴰ.cases_cons m)

    go : (c : Bool) → eqb (prefix_radix (a ∷ b ∷ t)) 10 ≡ c → Memᴰ 46 (cond c (a ∷ b ∷ t) (drop_underscores t))
    go true e = m
    go false e = underscores-point t (first e (Memᴰ.cases_cons m))

pub literal-fraction : (s : Sign) (t : List ℕ) → 2 ≤ literal_radix s t → Memᴰ 46 t → {x : Written} → literal_reading s t ≡ number x → x.base ≡ 1
    → (q : Seen) × (literal_scan s t ≡ at fraction q x)
unfolding literal_scan
literal-fraction s t two point e one =
    in-fraction Skip (literal_radix s t) two (after_prefix (literal_body s t)) (at whole sign (blank (literal_minus s t)))
    (prefix-point (literal_body s t) (body-point s t point)) (literal-ends s t) (sym (literal-scanned s t) ∙ e) one
