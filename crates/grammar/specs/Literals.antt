-- A literal and the plain text that it stands for: `_` is skipped, the prefix tells the radix, and the sign was read. Assumes nothing.
use Rattle.std.proofs.Math.Path.{◌≡◌, refl, sym, ap}
use Rattle.std.proofs.Common.{◌∙◌, inl, inr, arith, length-drop}
use Rattle.std.specs.Prelude.{◌⊎◌, Bool, cond, ℕ, suc, ◌≤◌, ◌<◌, length, drop, get_or}
use Rattle.std.proofs.Math.Bool.{true, false}
use Rattle.std.proofs.lemmas.Bool.{false≢true}
use mathlib.Core.List.{List, [], ◌∷◌, Memᴰ}
use Rattle.std.proofs.Math.Dec.{eqb}
use borrow.Author.Tests.{eqb-true, eqb-false, ne_eqb}
use Rattle.format.specs.Meaning.{Sign, signed, unsigned}
use Rattle.grammar.specs.Meaning.{is_sign, Written, number, plain_reading, literal_reading, prefix_mark, prefix_radix}
use Rattle.grammar.specs.Meaning.{drop_underscores, after_prefix, literal_minus, literal_body, literal_radix, blank}
use Rattle.grammar.specs.Automaton.{Sep, Skip, Error, NumberPart, whole, Seen, nothing, sign, digit, Scan, at, refuse}
use Rattle.grammar.specs.Automaton.{step, scan, finish, plain_scan, literal_scan, on_sign, on_underscore, reading_of}
use Rattle.grammar.specs.Accepted.{finish-at, scan-refuse, number_at}
use Rattle.grammar.specs.Agrees.{or_right, plain-scanned, literal-scanned}

-- ---- the prefix: where there is no second byte there is none
pub same-either : (c : Bool) → ◌≡◌ {A = ℕ} 10 (cond c 10 10)
same-either true = refl
same-either false = refl

pub short-prefix : (l : List ℕ) → length l < 2 → 10 ≡ prefix_radix l
unfolding prefix_radix prefix_mark
short-prefix [] h = refl
short-prefix (a ∷ []) h = same-either (eqb a 48)
short-prefix (a ∷ b ∷ l) h = absurd (omega arith)

-- ---- `_`: where there is none the readers scan alike
step-sep : (radix b : ℕ) (p : NumberPart) (q : Seen) (x : Written) → (95 ≡ b → ⊥) → step Skip radix b p q x ≡ step Error radix b p q x
unfolding step
step-sep radix b p q x h = rw (ne_eqb b 95 (λ e. h (sym e)))

scan-sep : (radix : ℕ) (t : List ℕ) (r : Scan) → (Memᴰ 95 t → ⊥) → scan Skip radix t r ≡ scan Error radix t r
unfolding scan
scan-sep radix [] r h = refl
scan-sep radix (b ∷ t) (refuse n) h = refl
scan-sep radix (b ∷ t) (at p q x) h =
    ap (scan Skip radix t) (step-sep radix b p q x (λ e. h (Memᴰ.head e))) ∙ scan-sep radix t (step Error radix b p q x) (λ m. h (Memᴰ.tail m))

-- the bytes but `_`
unfoldable pub bare : List ℕ → List ℕ
bare [] = []
bare (b ∷ t) = cond (eqb b 95) (bare t) (b ∷ bare t)

bare-length : (t : List ℕ) → length (bare t) ≤ length t
unfolding bare
bare-length [] = omega arith
bare-length (b ∷ t) = go (eqb b 95) (bare-length t)
  where
    go : (m : Bool) → length (bare t) ≤ length t → length (cond m (bare t) (b ∷ bare t)) ≤ suc (length t)
    go true h = omega arith
    go false h = omega arith

step-under : (radix b : ℕ) (p : NumberPart) (q : Seen) (x : Written) → b ≡ 95 → step Skip radix b p q x ≡ on_underscore Skip p q x
unfolding step
step-under radix b p q x e = rw e

-- a scan that skips them and is not refused is a scan without them
module _ (radix : ℕ) {p' : NumberPart} {q' : Seen} {y : Written} where
  -- where a digit was read, `_` leaves everything as it is
  skipped : (t : List ℕ) (p : NumberPart) (q : Seen) (x : Written) → ((r : Scan) → scan Skip radix t r ≡ at p' q' y → scan Error radix (bare t) r ≡ at p' q' y)
      → scan Skip radix t (on_underscore Skip p q x) ≡ at p' q' y → scan Error radix (bare t) (at p q x) ≡ at p' q' y
  unfolding on_underscore
  skipped t p nothing x rest e = let z = sym (scan-refuse Skip radix t 14) ∙ e in let no : ◌≡◌ {A = ℕ} 0 1 = cc in absurd (omega arith)
  skipped t p sign x rest e = let z = sym (scan-refuse Skip radix t 14) ∙ e in let no : ◌≡◌ {A = ℕ} 0 1 = cc in absurd (omega arith)
  skipped t p digit x rest e = rest (at p digit x) e

  pub bare-scan : (t : List ℕ) (r : Scan) → scan Skip radix t r ≡ at p' q' y → scan Error radix (bare t) r ≡ at p' q' y
  unfolding scan bare
  bare-scan [] r e = e
  bare-scan (b ∷ t) (refuse n) e = let no : ◌≡◌ {A = ℕ} 0 1 = cc in absurd (omega arith)
  bare-scan (b ∷ t) (at p q x) e = go (eqb b 95) refl (bare-scan t)
    where
      go : (m : Bool) → eqb b 95 ≡ m → ((r : Scan) → scan Skip radix t r ≡ at p' q' y → scan Error radix (bare t) r ≡ at p' q' y)
          → scan Error radix (cond m (bare t) (b ∷ bare t)) (at p q x) ≡ at p' q' y
      go true h rest = skipped t p q x rest (ap (scan Skip radix t) (sym (step-under radix b p q x (eqb-true b 95 h))) ∙ e)
      go false h rest =
          let same = step-sep radix b p q x (λ z. eqb-false b 95 h (sym z)) in
          rest (step Error radix b p q x) (ap (scan Skip radix t) (sym same) ∙ e)

-- ---- the sign: a body's scan starts as if one was read
abbrev pub body-scan : Sep → ℕ → List ℕ → Bool → Scan
body-scan k radix t neg = finish (scan k radix t (at whole sign (blank neg)))

-- with no sign in front it does not matter whether one was read
step-unsigned : (radix b : ℕ) (x : Written) → is_sign b ≡ false → step Error radix b whole sign x ≡ step Error radix b whole nothing x
unfolding step on_underscore
step-unsigned radix b x h = rw h refl

scan-unsigned : (radix : ℕ) (t : List ℕ) (neg : Bool) → is_sign (get_or t 0 0) ≡ false
    → finish (scan Error radix t (at whole sign (blank neg))) ≡ finish (scan Error radix t (at whole nothing (blank neg)))
unfolding scan finish
scan-unsigned radix [] neg h = refl
scan-unsigned radix (b ∷ t) neg h = ap (λ (y : Scan). finish (scan Error radix t y)) (step-unsigned radix b (blank neg) h)

-- a sign in front of a body is misplaced
step-misplaced : (k : Sep) (radix b : ℕ) (x : Written) → is_sign b ≡ true → step k radix b whole sign x ≡ refuse 12
unfolding step on_sign
step-misplaced k radix b x h = rw h

misplaced : (k : Sep) (radix : ℕ) (t : List ℕ) (neg : Bool) → is_sign (get_or t 0 0) ≡ true → body-scan k radix t neg ≡ refuse 12
unfolding scan finish
misplaced k radix [] neg h = absurd (false≢true h)
misplaced k radix (b ∷ t) neg h = ap (λ (y : Scan). finish (scan k radix t y)) (step-misplaced k radix b (blank neg) h) ∙ ap finish (scan-refuse k radix t 12)

-- so a body that is taken starts with none
pub body-opens : (k : Sep) (radix : ℕ) (t : List ℕ) (neg : Bool) {p : NumberPart} {q : Seen} {x : Written} → body-scan k radix t neg ≡ at p q x
    → is_sign (get_or t 0 0) ≡ false
body-opens k radix t neg {p} {q} {x} e = go (is_sign (get_or t 0 0)) refl
  where
    go : (m : Bool) → is_sign (get_or t 0 0) ≡ m → m ≡ false
    go true h = let z = sym (misplaced k radix t neg h) ∙ e in let no : ◌≡◌ {A = ℕ} 0 1 = cc in absurd (omega arith)
    go false h = refl

-- a body behind its sign, as a plain text
signed-scan : (radix : ℕ) (t : List ℕ) → body-scan Error radix t true ≡ plain_scan radix (45 ∷ t)
unfolding plain_scan scan step on_sign
signed-scan radix t = refl

bare-scan-unsigned : (radix : ℕ) (t : List ℕ) → is_sign (get_or t 0 0) ≡ false → body-scan Error radix t false ≡ plain_scan radix t
unfolding plain_scan
bare-scan-unsigned radix t h = scan-unsigned radix t false h

-- What a literal leaves for the plain reader: its sign, and its body without the prefix and `_`.
abbrev signed_text : Bool → List ℕ → List ℕ
signed_text neg t = cond neg (45 ∷ t) t

abbrev pub plain_text : Sign → List ℕ → List ℕ
plain_text s t = signed_text (literal_minus s t) (bare (after_prefix (literal_body s t)))

body-plain : (radix : ℕ) (t : List ℕ) (neg : Bool) {p : NumberPart} {q : Seen} {x : Written} → body-scan Error radix t neg ≡ at p q x
    → plain_scan radix (signed_text neg t) ≡ at p q x
body-plain radix t true e = sym (signed-scan radix t) ∙ e
body-plain radix t false e = sym (bare-scan-unsigned radix t (body-opens Error radix t false e)) ∙ e

literal-bare : (s : Sign) (t : List ℕ) {p : NumberPart} {q : Seen} {x : Written} → literal_scan s t ≡ at p q x
    → plain_scan (literal_radix s t) (plain_text s t) ≡ at p q x
unfolding literal_scan
literal-bare s t {p} {q} {x} e =
    let radix = literal_radix s t in
    let body = after_prefix (literal_body s t) in
    let neg = literal_minus s t in
    let r = scan Skip radix body (at whole sign (blank neg)) in
    let before = (finish-at r e).0 in
    let after : finish (at p q x) ≡ at p q x = ap finish (sym before) ∙ e in
    body-plain radix (bare body) neg (ap finish (bare-scan radix body (at whole sign (blank neg)) before) ∙ after)

-- it is no longer than the literal
underscores-length : (t : List ℕ) → length (drop_underscores t) ≤ length t
unfolding drop_underscores
underscores-length [] = omega arith
underscores-length (b ∷ t) = go (eqb b 95) (underscores-length t)
  where
    go : (m : Bool) → length (drop_underscores t) ≤ length t → length (cond m (drop_underscores t) (b ∷ t)) ≤ suc (length t)
    go true h = omega arith
    go false h = omega arith

after-length : (t : List ℕ) → length (after_prefix t) ≤ length t
after-length t = go (eqb (prefix_radix t) 10)
  where
    go : (m : Bool) → length (cond m t (drop_underscores (drop 2 t))) ≤ length t
    go true = omega arith
    go false = omega (arith, underscores-length (drop 2 t), length-drop 2 t)

pub plain-length : (s : Sign) (t : List ℕ) → length (plain_text s t) ≤ length t
unfolding literal_minus
plain-length signed [] = omega (arith, bare-length (after_prefix []), after-length [])
plain-length signed (b ∷ t) = go (eqb b 45)
  where
    go : (m : Bool) → length (signed_text m (bare (after_prefix (cond m t (b ∷ t))))) ≤ suc (length t)
    go true = omega (arith, bare-length (after_prefix t), after-length t)
    go false = omega (arith, bare-length (after_prefix (b ∷ t)), after-length (b ∷ t))
plain-length unsigned t = omega (arith, bare-length (after_prefix t), after-length t)

-- ---- a text without `_` and without a prefix
-- how it may start so that the plain reader takes its start too: with the `-` that the literal takes, or with no sign
abbrev pub Opens : Sign → List ℕ → Type 0
Opens s t = (literal_minus s t ≡ true) ⊎ (is_sign (get_or t 0 0) ≡ false)

-- without a prefix the body is all that stands after the sign
literal-body : (s : Sign) (t : List ℕ) → literal_radix s t ≡ 10 → literal_scan s t ≡ body-scan Skip 10 (literal_body s t) (literal_minus s t)
unfolding literal_scan
literal-body s t e = rw e

no_minus : (s : Sign) (t : List ℕ) → is_sign (get_or t 0 0) ≡ false → literal_minus s t ≡ false
unfolding literal_minus
no_minus signed t h = or_right (eqb (get_or t 0 0) 43) (eqb (get_or t 0 0) 45) h
no_minus unsigned t h = refl

body-free : (s : Sign) (t : List ℕ) → (Memᴰ 95 t → ⊥) → Memᴰ 95 (literal_body s t) → ⊥
unfolding literal_minus
body-free signed [] h = h
body-free signed (b ∷ t) h = go (eqb b 45)
  where
    go : (m : Bool) → Memᴰ 95 (cond m t (b ∷ t)) → ⊥
    go true e = h (Memᴰ.tail e)
    go false e = h e
body-free unsigned t h = h

minus-scan : (s : Sign) (t : List ℕ) → literal_minus s t ≡ true → body-scan Error 10 (literal_body s t) (literal_minus s t) ≡ plain_scan 10 t
unfolding literal_minus plain_scan scan step on_sign
minus-scan signed [] h = absurd (false≢true h)
minus-scan signed (b ∷ t) h = rw (eqb-true b 45 h)
minus-scan unsigned t h = absurd (false≢true h)

module _ (s : Sign) (t : List ℕ) (plain : Memᴰ 95 t → ⊥) (ten : literal_radix s t ≡ 10) where
  literal-scan-plain : Opens s t → literal_scan s t ≡ plain_scan 10 t
  unfolding plain_scan
  literal-scan-plain o =
      literal-body s t ten ∙ ap finish (scan-sep 10 (literal_body s t) (at whole sign (blank (literal_minus s t))) (body-free s t plain)) ∙ go o
    where
      go : Opens s t → body-scan Error 10 (literal_body s t) (literal_minus s t) ≡ plain_scan 10 t
      go (inl h) = minus-scan s t h
      go (inr h) = rw (no_minus s t h) (scan-unsigned 10 t false h)

  -- where the literal reader takes the text it starts so
  taken-opens : {p : NumberPart} {q : Seen} {x : Written} → literal_scan s t ≡ at p q x → Opens s t
  taken-opens {p} {q} {x} e = go (literal_minus s t) refl (sym (literal-body s t ten) ∙ e)
    where
      go : (m : Bool) → literal_minus s t ≡ m → body-scan Skip 10 (literal_body s t) (literal_minus s t) ≡ at p q x → Opens s t
      go true a e = inl a
      go false a e = inr (body-opens Skip 10 t false (rw a at e))

-- ---- the same of what the meaning reads
pub literal-number : (s : Sign) (t : List ℕ) {x : Written} → literal_reading s t ≡ number x → plain_reading (literal_radix s t) (plain_text s t) ≡ number x
unfolding reading_of
literal-number s t e =
    let found = number_at (literal_scan s t) (sym (literal-scanned s t) ∙ e) in
    plain-scanned (literal_radix s t) (plain_text s t) ∙ ap reading_of (literal-bare s t found.is)

module _ (s : Sign) (t : List ℕ) (plain : Memᴰ 95 t → ⊥) (ten : literal_radix s t ≡ 10) where
  pub literal-same : Opens s t → literal_reading s t ≡ plain_reading 10 t
  literal-same o = literal-scanned s t ∙ ap reading_of (literal-scan-plain s t plain ten o) ∙ sym (plain-scanned 10 t)

  pub number-opens : {x : Written} → literal_reading s t ≡ number x → Opens s t
  number-opens e = taken-opens s t plain ten (number_at (literal_scan s t) (sym (literal-scanned s t) ∙ e)).is
