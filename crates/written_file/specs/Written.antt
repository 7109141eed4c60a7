-- A fitting file whose lines are the writer's texts of raws, each ended by LF, gives back those raws: done, and the taps are the raws.
-- The idea: every byte that the writer writes is `-`, `.` or a digit, so a line holds no LF, starts no comment, and the literal reader reads it as the
-- plain reader does. Assumes nothing.
use Rattle.std.specs.Prelude.{◌≡◌, refl, ◌⊎◌, Bool, true, false, cond, ℕ, suc, ◌+◌, ◌*◌, ◌%◌, ◌^◌, ◌≤◌, ◌<◌, eqb, ℤ, pos, negsuc, length, Ok}
use Rattle.std.proofs.Common.{sym, ◌∙◌, subst, inl, inr, arith, length-append}
use Rattle.std.proofs.Math.Path.{ap}
use Rattle.std.proofs.lemmas.Bool.{false≢true}
use mathlib.Core.List.Memᴰ
use mathlib.Core.List.{List, [], ◌∷◌, ◌++◌, map, Memᴰ}
use borrow.Author.Tests.{ne_eqb, eq-eqb, le-leb}
use Rattle.format.specs.declared.Manner.TheVariants.{Strict}
use Rattle.format.specs.Meaning.{signed, done, fault_of, is_width, answered, number_in, value_in, guarded}
use Rattle.format.specs.Theorems.{InRange}
use Rattle.grammar.specs.Meaning.{is_sign, prefix_mark, prefix_radix, literal_minus, literal_radix, literal_of}
use Rattle.grammar.specs.Literals.{short-prefix, same-either, Opens}
use Rattle.grammar.specs.Theorems.{literal-plain}
use Rattle.decimal.specs.Meaning.{byte_of, fraction_digits, sign_text, text_of, raw_text}
use Rattle.decimal.specs.Form.{Digits, Leads, lone, first, pointed, form_text, Form, text-form, form_of}
use Rattle.decimal.specs.Form.{none as no_digit, more as one-digit}
use Rattle.decimal.specs.Theorems.{text-length, write_read}
use Rattle.filter.specs.Meaning.{most_taps}
use Rattle.filter.specs.Range.{sample-sfits}
use Rattle.value_lines.specs.Meaning.{file_limit, line_feed, hash, is_value, ValueLine, value_line, values_from}
use Rattle.value_lines.specs.Meaning.{values_of, answer_of, line_number, raw_at, number_at, over, lines_of}
use Rattle.value_lines.specs.Lines.{value-more}
use Rattle.value_lines.specs.Theorems.{NoFeeds, none, more, joined_lines, lines-joined}
use Rattle.fitting.specs.Meaning.{judge, accepted, room_fault, file_fault, fitted, fitted_of}
use Rattle.fitting.specs.Read.{judge-done}

-- ---- every byte is from `-`, 45, to `9`, 57
pub data Bytes : List ℕ → Type 0 where
  no_byte : Bytes []
  one_byte : {b : ℕ} {t : List ℕ} → 45 ≤ b → b ≤ 57 → Bytes t → Bytes (b ∷ t)

both : {s t : List ℕ} → Bytes s → Bytes t → Bytes (s ++ t)
both no_byte q = q
both (one_byte h k p) q = one_byte h k (both p q)

digit-bytes : {ds : List ℕ} → Digits ds → Bytes (map byte_of ds)
digit-bytes no_digit = no_byte
digit-bytes (one-digit {d} h r) = one_byte {b = d + 48} (omega arith) (omega arith) (digit-bytes r)

point-bytes : {fs : List ℕ} → Digits fs → Bytes (pointed fs)
unfolding pointed
point-bytes no_digit = no_byte
point-bytes (one-digit h r) = one_byte {b = 46} (omega arith) (omega arith) (digit-bytes (one-digit h r))

minus-bytes : (neg : Bool) → Bytes (sign_text neg)
unfolding sign_text
minus-bytes true = one_byte {b = 45} (omega arith) (omega arith) no_byte
minus-bytes false = no_byte

form-bytes : {neg : Bool} {ws fs : List ℕ} → Form neg ws fs → Bytes (form_text neg ws fs)
unfolding form_text
form-bytes {neg} f = both (minus-bytes neg) (both (digit-bytes f.whole-digits) (point-bytes f.fraction-digits))

form-value : (neg : Bool) {ws : List ℕ} (fs : List ℕ) → Leads ws → is_value (form_text neg ws fs) ≡ true
unfolding form_text sign_text is_value
form-value true fs l = refl
form-value false fs (lone {d}) = rw (ne_eqb (d + 48) hash (λ e. omega arith))
form-value false fs (first {d} {e} {ds} h) = rw (ne_eqb (d + 48) hash (λ e. omega arith))

-- a text of the writer's
pub record Line (t : List ℕ) : Type 0 where
  pub in-range : Bytes t
  pub value : is_value t ≡ true

text-line : (neg : Bool) (m f : ℕ) → (neg ≡ true → 0 < m) → Line (text_of neg m f)
text-line neg m f h =
    let form = form_of neg m f h in
    rw (text-form neg m f) (record { in-range = form-bytes form; value = form-value neg (fraction_digits f (m % 2 ^ f)) form.leads })

pub raw-line : (raw : ℤ) (f : ℕ) → Line (raw_text raw f)
unfolding raw_text
raw-line (pos n) f = text-line false n f (λ e. absurd (false≢true e))
raw-line (negsuc n) f = text-line true (suc n) f (λ e. omega arith)

-- ---- the literal reader reads such a text as the plain reader does
outside : {t : List ℕ} (b : ℕ) → Bytes t → (45 ≤ b → b ≤ 57 → ⊥) → Memᴰ b t → ⊥
outside b no_byte out m = Memᴰ.not-nil m
outside b (one_byte {b = a} {t} h k p) out m = go (Memᴰ.cases_cons m) (outside b p out)
  where
    go : (b ≡ a) ⊎ Memᴰ b t → (Memᴰ b t → ⊥) → ⊥
    go (inl e) f = out (omega arith) (omega arith)
    go (inr m) f = f m

mark-ten : (b : ℕ) → b ≤ 57 → prefix_mark b ≡ 10
unfolding prefix_mark
mark-ten b h = rw (ne_eqb b 98 (λ e. omega arith), ne_eqb b 111 (λ e. omega arith), ne_eqb b 120 (λ e. omega arith))

prefix-ten : {t : List ℕ} → Bytes t → prefix_radix t ≡ 10
unfolding prefix_radix
prefix-ten no_byte = sym (short-prefix [] (omega arith))
prefix-ten (one_byte {b = a} h k no_byte) = sym (short-prefix (a ∷ []) (omega arith))
prefix-ten (one_byte {b = a} h k (one_byte {b} i j p)) = rw (mark-ten b j) (sym (same-either (eqb a 48)))

radix-ten : {t : List ℕ} → Bytes t → literal_radix signed t ≡ 10
unfolding literal_minus
radix-ten no_byte = prefix-ten no_byte
radix-ten (one_byte {b} {t} h k p) = go (eqb b 45) (prefix-ten p) (prefix-ten (one_byte h k p))
  where
    go : (c : Bool) → prefix_radix t ≡ 10 → prefix_radix (b ∷ t) ≡ 10 → prefix_radix (cond c t (b ∷ t)) ≡ 10
    go true x y = x
    go false x y = y

opens : {t : List ℕ} → Bytes t → Opens signed t
unfolding literal_minus
opens no_byte = inr refl
opens (one_byte {b} {t} h k p) = go (eqb b 45) refl
  where
    go : (c : Bool) → eqb b 45 ≡ c → (eqb b 45 ≡ true) ⊎ (is_sign b ≡ false)
    go true e = inl e
    go false e = inr (rw (ne_eqb b 43 (λ z. omega arith), e))

pub literal-write : (raw : ℤ) (w f : ℕ) → fault_of w f ≡ 0 → InRange signed w raw → literal_of signed w f (raw_text raw f) ≡ done raw false
literal-write raw w f format range =
    let b = (raw-line raw f).in-range in
    literal-plain signed (raw_text raw f) (outside 95 b (λ h k. omega arith)) (radix-ten b) (opens b) w f ∙ write_read Strict signed w f format raw range

-- ---- the file
abbrev pub line_of : ℤ → List ℕ
line_of raw = raw_text raw 15

unfoldable pub written_file : List ℤ → List ℕ
written_file rs = joined_lines (map line_of rs)

pub data Raws : List ℤ → Type 0 where
  no-raw : Raws []
  one-raw : {r : ℤ} {rs : List ℤ} → InRange signed 16 r → Raws rs → Raws (r ∷ rs)

whole-lines : (rs : List ℤ) → NoFeeds (map line_of rs)
whole-lines [] = none
whole-lines (r ∷ rs) = more (outside line_feed (raw-line r 15).in-range (λ h k. omega arith)) (whole-lines rs)

lines_are : (rs : List ℤ) → lines_of (written_file rs) ≡ map line_of rs
unfolding written_file
lines_are rs = lines-joined (whole-lines rs)

-- a line is at most 67 bytes and LF
line-short : (r : ℤ) → InRange signed 16 r → length (line_of r) ≤ 67
unfolding raw_text
line-short (pos n) range = text-length false n 15 (omega (arith, (sample-sfits (pos n) range).sfits)) (omega arith)
line-short (negsuc n) range = text-length true (suc n) 15 (omega (arith, (sample-sfits (negsuc n) range).sfits)) (omega arith)

file-short : {rs : List ℤ} → Raws rs → length (written_file rs) ≤ 68 * length rs
unfolding written_file joined_lines
file-short no-raw = omega arith
file-short (one-raw {r} {rs} h hs) =
    omega (arith, length-append (line_of r) (line_feed ∷ joined_lines (map line_of rs)), line-short r h, file-short hs)

-- the values: one for each raw, accepted, with the raw
pub record TapsRead (rs : List ℤ) (vs : List ValueLine) : Type 0 where
  pub count : length vs ≡ length rs
  pub raws-are : map raw_at vs ≡ rs
  pub all : accepted vs ≡ true

one_line : (n : ℕ) (r : ℤ) → InRange signed 16 r → (raw_at (value_line n (line_of r)) ≡ r) × (number_at (value_line n (line_of r)) ≡ 0)
unfolding raw_at number_at answer_of answered value_in number_in fault_of is_width
one_line n r h =
    let e = literal-write r 16 15 refl h in
    (rw e, rw e)

values : (n : ℕ) {rs : List ℤ} → Raws rs → TapsRead rs (values_from n (map line_of rs))
unfolding accepted values_from
values n no-raw = record { count = refl; raws-are = refl; all = refl }
values n (one-raw {r} {rs} h hs) =
    let step = value-more n (line_of r) (map line_of rs) (raw-line r 15).value in
    let one = one_line n r h in
    let rest = values (n + 1) hs in
    subst (TapsRead (r ∷ rs)) (sym step)
    (record {
      count = ap suc rest.count;
      raws-are = rw (one.0, rest.raws-are);
      all = rw one.1 rest.all;
    })

-- What is written reads back: with room for the raws, of which there are 1 to 64, the answer is done, and raws and taps hold the raws.
module _ (rs : List ℤ) (range : Raws rs) (some : 1 ≤ length rs) (few : length rs ≤ most_taps) (lines : List ℕ) (raws : List ℤ) (answers : List ℕ) (taps : List ℤ)
    (same-raws : length lines ≡ length raws) (same-answers : length lines ≡ length answers) (room : length rs ≤ length lines)
    (taps-room : length rs ≤ length taps) where
  abbrev vs : List ValueLine
  vs = values_of (written_file rs)

  read : TapsRead rs vs
  unfolding values_of
  read = rw (lines_are rs) (values 1 range)

  no-fault : file_fault (length (written_file rs)) (length vs) (length lines) (length raws) (length answers) (length taps) ≡ 0
  unfolding file_fault room_fault
  no-fault =
      rw (
        read.count,
        le-leb (length (written_file rs)) file_limit (omega (arith, file-short range)),
        le-leb (length rs) most_taps few,
        eq-eqb (length lines) (length raws) same-raws,
        eq-eqb (length lines) (length answers) same-answers,
        le-leb (length rs) (length lines) room,
        le-leb (length rs) (length taps) taps-room,
        ne_eqb (length rs) 0 (λ z. omega arith),
      )

  pub written_back : fitted_of (written_file rs) lines raws answers taps
      ≡ fitted (Ok (length rs)) (over (map line_number vs) lines) (over rs raws) (over (map number_at vs) answers) (over rs taps)
  unfolding fitted_of guarded
  written_back =
      let told : judge (length vs) vs ≡ Ok (length rs) = judge-done (length vs) vs read.all ∙ ap Ok read.count in
      rw (no-fault, told, read.raws-are, read.all)
