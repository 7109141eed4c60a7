-- What is proved of the meaning of the value lines: a file is its lines; the values are exactly the value lines, in order, each with its number; what a
-- comment, an empty line or another value changes; and what an answer says of its line. Assumes nothing.
use Rattle.std.specs.Prelude.{◌≡◌, ◌≢◌, Bool, true, false, cond, ℕ, zero, suc, ◌+◌, ◌-◌, ◌≤◌, leb, pos, get_or}
use Rattle.std.proofs.Math.Path.{refl, ap}
use Rattle.std.proofs.Common.{sym, subst, ◌∙◌, arith, ne_eqb}
use mathlib.Core.List.{List, [], ◌∷◌, ◌++◌, map, append-nil, append_assoc, Memᴰ}
use Rattle.std.proofs.Math.ListN.{length}
use Rattle.format.specs.declared.refusal.Refusal.{Refusal}
use Rattle.format.specs.declared.refusal.Refusal.TheVariants.{WrongWidth, WrongFrac, WrongRadix, TooLong, WrongLength, Overflow, NoDigits, MisplacedSign, InvalidDigit, MisplacedUnderscore, TooManyPoints, ExpInvalidDigit, ExpNoDigits, TooManyExp, ExpOverflow, NotANumber, ZeroDivisor, NotPositive, WrongTaps, TooManyValues}
use Rattle.format.specs.Meaning.{signed, signed_kind, Outcome, done, refused, answered, number, named, number_in, value_in, fault_of, is_width, fits, settle, guarded, with_sign}
use Rattle.format.specs.declared.Manner.TheVariants.{Strict}
use Rattle.grammar.specs.Meaning.{literal_of, literal_radix, literal_reading, Reading, outcome_of, raw_of, text_limit}
use Rattle.grammar.specs.Accepted.{Says, says, says-not}
use Rattle.grammar.specs.Agrees.{literal-says}
use Rattle.value_lines.specs.Meaning.{line_feed, onto, lines_of, is_value, ValueLine, value_line, values_from, answer_of, raw_at, number_at}

-- ---- A file is its lines.
-- a line holds no LF
abbrev pub NoFeed : List ℕ → Type 0
NoFeed line = Memᴰ line_feed line → ⊥

pub data NoFeeds : List (List ℕ) → Type 0 where
  none : NoFeeds []
  more : {line : List ℕ} {lines : List (List ℕ)} → NoFeed line → NoFeeds lines → NoFeeds (line ∷ lines)

-- each line, ended by LF
unfoldable pub joined_lines : List (List ℕ) → List ℕ
joined_lines [] = []
joined_lines (line ∷ lines) = line ++ line_feed ∷ joined_lines lines

-- a line that LF ends, and what stands after it
pub line-cut : (line file : List ℕ) → NoFeed line → lines_of (line ++ line_feed ∷ file) ≡ line ∷ lines_of file
unfolding lines_of onto
line-cut [] file h = refl
line-cut (b ∷ line) file h =
    let other = ne_eqb b line_feed (λ e. h (Memᴰ.head (sym e))) in
    rw (other, line-cut line file (λ m. h (Memᴰ.tail m)))

-- the last line, without LF
pub line-last : (b : ℕ) (line : List ℕ) → NoFeed (b ∷ line) → lines_of (b ∷ line) ≡ (b ∷ line) ∷ []
unfolding lines_of onto
line-last b [] h = rw (ne_eqb b line_feed (λ e. h (Memᴰ.head (sym e))))
line-last b (a ∷ line) h =
    let other = ne_eqb b line_feed (λ e. h (Memᴰ.head (sym e))) in
    let rest = line-last a line (λ m. h (Memᴰ.tail m)) in
    rw (other, rest)

-- lines, each ended by LF, before any text
pub lines-before : {lines : List (List ℕ)} (file : List ℕ) → NoFeeds lines → lines_of (joined_lines lines ++ file) ≡ lines ++ lines_of file
unfolding joined_lines
lines-before file none = refl
lines-before file (more {line} {lines} h hs) =
    ap lines_of (append_assoc line (line_feed ∷ joined_lines lines) file) ∙ line-cut line (joined_lines lines ++ file) h
    ∙ ap (λ (l : List (List ℕ)). line ∷ l) (lines-before file hs)

pub lines-joined : {lines : List (List ℕ)} → NoFeeds lines → lines_of (joined_lines lines) ≡ lines
unfolding lines_of
lines-joined {lines} h = ap lines_of (sym (append-nil (joined_lines lines))) ∙ lines-before [] h ∙ append-nil lines

-- ---- The values are exactly the value lines, in order.
unfoldable pub only : List (List ℕ) → List (List ℕ)
only [] = []
only (line ∷ lines) = cond (is_value line) (line ∷ only lines) (only lines)

abbrev pub line_text : ValueLine → List ℕ
line_text v = v.text

pub texts-from : (n : ℕ) (lines : List (List ℕ)) → map line_text (values_from n lines) ≡ only lines
unfolding values_from only
texts-from n [] = refl
texts-from n (line ∷ lines) = go (is_value line) (texts-from (n + 1) lines)
  where
    go : (b : Bool) → map line_text (values_from (n + 1) lines) ≡ only lines
        → map line_text (cond b (value_line n line ∷ values_from (n + 1) lines) (values_from (n + 1) lines)) ≡ cond b (line ∷ only lines) (only lines)
    go true h = ap (λ (l : List (List ℕ)). line ∷ l) h
    go false h = h

-- what stands in the list depends on the texts alone
pub raws-of : (vs ws : List ValueLine) → map line_text vs ≡ map line_text ws → (map raw_at vs ≡ map raw_at ws) × (map number_at vs ≡ map number_at ws)
unfolding raw_at number_at
raws-of [] [] e = (refl, refl)
raws-of [] (w ∷ ws) e = let z : ◌≡◌ {A = ℕ} 0 1 = cc in absurd (omega arith)
raws-of (v ∷ vs) [] e = let z : ◌≡◌ {A = ℕ} 0 1 = cc in absurd (omega arith)
raws-of (v ∷ vs) (w ∷ ws) e =
    let first : v.text ≡ w.text = cc in
    let rest : map line_text vs ≡ map line_text ws = cc in
    let r = raws-of vs ws rest in
    (rw (first, r.0), rw (first, r.1))

-- a value line has the number, from 1, of its line
pub record Numbered (n : ℕ) (lines : List (List ℕ)) (v : ValueLine) : Type 0 where
  pub at_least : n ≤ v.number
  pub is-line : get_or lines (v.number - n) [] ≡ v.text

-- ---- What one line changes. The values of some lines and then others:
pub values-append : (n : ℕ) (lines others : List (List ℕ)) → values_from n (lines ++ others) ≡ values_from n lines ++ values_from (n + length lines) others
unfolding values_from
values-append n [] others = ap (λ (k : ℕ). values_from k others) (omega arith)
values-append n (line ∷ lines) others = go (is_value line) (values-append (n + 1) lines others)
  where
    go : (b : Bool) → values_from (n + 1) (lines ++ others) ≡ values_from (n + 1) lines ++ values_from (n + 1 + length lines) others
        → cond b (value_line n line ∷ values_from (n + 1) (lines ++ others)) (values_from (n + 1) (lines ++ others))
        ≡ cond b (value_line n line ∷ values_from (n + 1) lines) (values_from (n + 1) lines) ++ values_from (n + suc (length lines)) others
    go true h =
        let same : n + 1 + length lines ≡ n + suc (length lines) = omega arith in
        ap (λ (l : List ValueLine). value_line n line ∷ l) (h ∙ rw same)
    go false h =
        let same : n + 1 + length lines ≡ n + suc (length lines) = omega arith in
        h ∙ rw same

-- one line further on
unfoldable pub later : ValueLine → ValueLine
later v = value_line (v.number + 1) v.text

pub values-later : (n : ℕ) (lines : List (List ℕ)) → values_from (n + 1) lines ≡ map later (values_from n lines)
unfolding values_from later
values-later n [] = refl
values-later n (line ∷ lines) = go (is_value line) (values-later (n + 1) lines)
  where
    go : (b : Bool) → values_from (n + 1 + 1) lines ≡ map later (values_from (n + 1) lines)
        → cond b (value_line (n + 1) line ∷ values_from (n + 1 + 1) lines) (values_from (n + 1 + 1) lines)
        ≡ map later (cond b (value_line n line ∷ values_from (n + 1) lines) (values_from (n + 1) lines))
    go true h = ap (λ (l : List ValueLine). value_line (n + 1) line ∷ l) h
    go false h = h

-- ---- An answer in the list is 0 exactly if the line is a literal of the format, and then the raw is its value; a refused line has raw 0.
-- no refusal has the number 0
some-number : (e : Refusal) → number e ≢ 0
unfolding number
some-number WrongWidth z = omega arith
some-number WrongFrac z = omega arith
some-number WrongRadix z = omega arith
some-number TooLong z = omega arith
some-number WrongLength z = omega arith
some-number Overflow z = omega arith
some-number NoDigits z = omega arith
some-number MisplacedSign z = omega arith
some-number InvalidDigit z = omega arith
some-number MisplacedUnderscore z = omega arith
some-number TooManyPoints z = omega arith
some-number ExpInvalidDigit z = omega arith
some-number ExpNoDigits z = omega arith
some-number TooManyExp z = omega arith
some-number ExpOverflow z = omega arith
some-number NotANumber z = omega arith
some-number ZeroDivisor z = omega arith
some-number NotPositive z = omega arith
some-number WrongTaps z = omega arith
some-number TooManyValues z = omega arith

-- a literal is refused with a number of the table
in_table : (k : ℕ) → k ≤ 9 → number (named (10 + k)) ≡ 10 + k
unfolding number named
in_table zero h = refl
in_table (suc zero) h = refl
in_table (suc (suc zero)) h = refl
in_table (suc (suc (suc zero))) h = refl
in_table (suc (suc (suc (suc zero)))) h = refl
in_table (suc (suc (suc (suc (suc zero))))) h = refl
in_table (suc (suc (suc (suc (suc (suc zero)))))) h = refl
in_table (suc (suc (suc (suc (suc (suc (suc zero))))))) h = refl
in_table (suc (suc (suc (suc (suc (suc (suc (suc zero)))))))) h = refl
in_table (suc (suc (suc (suc (suc (suc (suc (suc (suc zero))))))))) h = refl
in_table (suc (suc (suc (suc (suc (suc (suc (suc (suc (suc k)))))))))) h = absurd (omega arith)

listed : (n : ℕ) → 10 ≤ n → n ≤ 19 → number (named n) ≡ n
listed n h k =
    let e : 10 + (n - 10) ≡ n = omega arith in
    subst (λ (m : ℕ). number (named m) ≡ m) e (in_table (n - 10) (omega arith))

reading-listed : (radix : ℕ) {r : Reading} → Says radix r → (n : ℕ) → outcome_of Strict signed 16 15 radix r ≡ refused n → number (named n) ≡ n
unfolding outcome_of settle
reading-listed radix (says {x} h) n e = go (fits signed 16 (with_sign x.neg (raw_of radix 15 x))) e
  where
    go : (t : Bool) → cond t (done (with_sign x.neg (raw_of radix 15 x)) false) (refused 10) ≡ refused n → number (named n) ≡ n
    go true e = cc
    go false e = let same : n ≡ 10 = cc in listed n (omega arith) (omega arith)
reading-listed radix (says-not {n = m} l h) n e = let same : m ≡ n = cc in listed n (omega arith) (omega arith)

literal-listed : (line : List ℕ) (n : ℕ) → literal_of signed 16 15 line ≡ refused n → number (named n) ≡ n
unfolding literal_of guarded fault_of is_width number named
literal-listed line n e = go (leb (length line) text_limit) e
  where
    go : (t : Bool) → cond t (outcome_of Strict signed 16 15 (literal_radix signed line) (literal_reading signed line)) (refused 4) ≡ refused n
        → number (named n) ≡ n
    go true e = reading-listed (literal_radix signed line) (literal-says signed line) n e
    go false e = let same : 4 ≡ n = cc in subst (λ (m : ℕ). number (named m) ≡ m) same refl

pub accepted-value : (v : ValueLine) → number_at v ≡ 0 → (f : Bool) × (literal_of signed 16 15 v.text ≡ done (raw_at v) f)
unfolding number_at raw_at answer_of answered number_in value_in
accepted-value v e = go (literal_of signed 16 15 v.text) e
  where
    go : (o : Outcome) → number_in (answered signed_kind o) ≡ 0 → (f : Bool) × (o ≡ done (value_in signed_kind (answered signed_kind o)) f)
    go (done x f) e = (f, refl)
    go (refused n) e = absurd (some-number (named n) e)

pub refused-value : (v : ValueLine) → (number_at v ≡ 0 → ⊥) → (literal_of signed 16 15 v.text ≡ refused (number_at v)) × (raw_at v ≡ pos 0)
unfolding number_at raw_at answer_of answered number_in value_in
refused-value v h = go (literal_of signed 16 15 v.text) refl h
  where
    go : (o : Outcome) → literal_of signed 16 15 v.text ≡ o → (number_in (answered signed_kind o) ≡ 0 → ⊥)
        → (o ≡ refused (number_in (answered signed_kind o))) × (value_in signed_kind (answered signed_kind o) ≡ pos 0)
    go (done x f) p h = absurd (h refl)
    go (refused n) p h = (ap refused (sym (literal-listed v.text n p)), refl)
