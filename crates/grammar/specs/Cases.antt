-- Document 01's cases of reading, and docs/GRAMMAR.md's telling texts, computed from the meaning: a row is a format, a text and what it gives.
-- A format is named as in document 01: i4f4 is signed, W = 8, F = 4. Assumes nothing.
use Rattle.std.specs.Prelude.{◌≡◌, refl, Bool, true, false, cond, List, [], ◌∷◌, ◌++◌, map, ℕ, zero, suc, ◌+◌, ◌≤◌, length, replicate, pos, neg_ℤ}
use Rattle.std.proofs.Common.{ap₂, ◌∙◌, lit≤}
use Prim.Native.String.{String}
use Rattle.laws.specs.Nearest.{nearest_even, nearest_by}
use Rattle.laws.specs.Text.{bytes}
use Rattle.format.specs.declared.Manner.{Manner}
use Rattle.format.specs.declared.Manner.TheVariants.{Strict, Saturating, Wrapping, Overflowing}
use Rattle.format.specs.Meaning.{Sign, signed, unsigned, Outcome, done, refused, is_width, fault_of, lowest, highest, fits, hold, wrap, settle, guarded}
use Rattle.format.specs.Meaning.{with_sign}
use Rattle.grammar.specs.Meaning.{digit_of, is_sign, is_mark, Written, number as numberRead, exponent_from, digits_from}
use Rattle.grammar.specs.Meaning.{plain_reading, literal_minus, prefix_mark, prefix_radix, drop_underscores, literal_reading}
use Rattle.grammar.specs.Meaning.{nat_from, num, den, raw_of, outcome_of, is_radix, text_limit, read_of, literal_of}
use Rattle.grammar.specs.Automaton.{is_digit, base_of, on_sign, on_point, on_underscore, on_mark, on_exp_digit, on_other}
use Rattle.grammar.specs.Automaton.{step, scan, ended, finish, plain_scan, literal_scan, reading_of, read_scan}
use Rattle.grammar.specs.Agrees.{plain-scanned, scan_of, literal_scan_of, read-scan-of, literal-scan-of}
use Rattle.grammar.specs.Rounding.{huge-over, huge-wraps, huge-under, nothing_written}
use Rattle.grammar.specs.Theorems.{Taken, read_as, den-positive}

-- ---- how a row is written
record Format : Type 0 where
  kind : Sign
  width : ℕ
  frac : ℕ

abbrev format : Sign → ℕ → ℕ → Format
format s w f = record { kind = s; width = w; frac = f }

abbrev i8f0 : Format
i8f0 = format signed 8 0

abbrev i4f4 : Format
i4f4 = format signed 8 4

abbrev i0f8 : Format
i0f8 = format signed 8 8

abbrev i12f4 : Format
i12f4 = format signed 16 4

abbrev i8f8 : Format
i8f8 = format signed 16 8

abbrev i1f15 : Format
i1f15 = format signed 16 15

abbrev i16f16 : Format
i16f16 = format signed 32 16

abbrev u8f0 : Format
u8f0 = format unsigned 8 0

abbrev u0f8 : Format
u0f8 = format unsigned 8 8

abbrev u8f8 : Format
u8f8 = format unsigned 16 8

abbrev u32f32 : Format
u32f32 = format unsigned 64 32

abbrev u0f64 : Format
u0f64 = format unsigned 64 64

-- what is asked: the plain reader in a manner, or the literal reader
data Asked : Type 0 where
  plain : Manner → Sign → ℕ → ℕ → ℕ → List ℕ → Asked
  literally : Sign → ℕ → ℕ → List ℕ → Asked

-- the plain reader in each manner, told the radix
abbrev reads : Manner → ℕ → Format → String → Asked
reads k radix g t = plain k g.kind g.width g.frac radix (bytes t)

abbrev strict : ℕ → Format → String → Asked
strict = reads Strict

abbrev saturating : ℕ → Format → String → Asked
saturating = reads Saturating

abbrev wrapping : ℕ → Format → String → Asked
wrapping = reads Wrapping

abbrev overflowing : ℕ → Format → String → Asked
overflowing = reads Overflowing

-- the literal reader
abbrev literal : Format → String → Asked
literal g t = literally g.kind g.width g.frac (bytes t)

-- what comes out, with the flag clear: a raw, or one below 0
abbrev raw : ℕ → Outcome
raw n = done (pos n) false

abbrev minus : ℕ → Outcome
minus n = done (neg_ℤ (pos n)) false

-- A row: what is asked, and what the meaning answers. To unfold `answer` is to unfold the whole meaning.
infix 80 ◌gives◌
data Case : Type 0 where
  ◌gives◌ : Asked → Outcome → Case

answer : Asked → Outcome
unfolding nearest_even nearest_by bytes is_width fault_of lowest highest fits hold wrap settle guarded with_sign digit_of is_mark exponent_from digits_from plain_reading
    prefix_mark prefix_radix drop_underscores literal_minus literal_reading nat_from num den raw_of outcome_of is_radix read_of literal_of
answer (plain k s w f radix t) = read_of k s w f radix t
answer (literally s w f t) = literal_of s w f t

abbrev got : Case → Outcome
got (a gives b) = answer a

abbrev want : Case → Outcome
want (a gives b) = b

-- every row of a table is right
abbrev Right : List Case → Type 0
Right rows = map got rows ≡ map want rows

-- The automaton's answer is the same and takes fewer steps to compute. To unfold `computed` is to unfold all of it.
computed : Asked → Outcome
unfolding nearest_even nearest_by bytes is_width fault_of lowest highest fits hold wrap settle guarded with_sign digit_of is_mark on_sign on_point on_underscore on_mark
    on_exp_digit on_other step scan ended finish plain_scan prefix_mark prefix_radix drop_underscores literal_minus literal_scan nat_from num den raw_of read_scan is_radix
    scan_of literal_scan_of
computed (plain k s w f radix t) = scan_of k s w f radix t
computed (literally s w f t) = literal_scan_of s w f t

abbrev found : Case → Outcome
found (a gives b) = computed a

same : (a : Asked) → answer a ≡ computed a
unfolding answer computed
same (plain k s w f radix t) = read-scan-of k s w f radix t
same (literally s w f t) = literal-scan-of s w f t

same_rows : (rows : List Case) → map got rows ≡ map found rows
same_rows [] = refl
same_rows ((a gives b) ∷ rows) = ap₂ (λ (o : Outcome) (os : List Outcome). o ∷ os) (same a) (same_rows rows)

right : (rows : List Case) → map found rows ≡ map want rows → Right rows
right rows e = same_rows rows ∙ e

-- ---- document 01, "Cases", in its order
document : List Case
document =
    -- W 8 signed, F 4
    strict 10 i4f4 "7.96875" gives refused 10
    ∷ strict 10 i4f4 "-8.03125" gives minus 128
    ∷ strict 10 i4f4 "0.03125" gives raw 0
    ∷ strict 10 i4f4 "0.09375" gives raw 2
    -- W 8 signed, F 0
    ∷ strict 10 i8f0 "127.5" gives refused 10
    ∷ wrapping 10 i8f0 "127.5" gives minus 128
    ∷ saturating 10 i8f0 "127.5" gives raw 127
    ∷ overflowing 10 i8f0 "127.5" gives done (neg_ℤ (pos 128)) true
    ∷ strict 10 i8f0 "-128.5" gives minus 128
    -- W 8 unsigned, F 0
    ∷ strict 10 u8f0 "-0.4" gives raw 0
    ∷ overflowing 10 u8f0 "-0.4" gives raw 0
    ∷ strict 10 u8f0 "-0.6" gives refused 10
    ∷ overflowing 10 u8f0 "-0.6" gives done (pos 255) true
    -- I1F15
    ∷ strict 10 i1f15 "-1" gives minus 32768
    ∷ strict 10 i1f15 "1" gives refused 10
    ∷ strict 10 i1f15 "0.99998" gives raw 32767
    ∷ strict 10 i1f15 "0.99999" gives refused 10
    -- literals
    ∷ literal i1f15 "+1" gives refused 12
    ∷ literal i1f15 "0x-1" gives refused 12
    ∷ literal i1f15 "" gives refused 11
    ∷ literal i8f8 "-" gives refused 11
    ∷ literal u8f8 "-" gives refused 12
    ∷ literal i8f8 "0X1" gives refused 13
    ∷ []

document-right : Right document
unfolding document computed
document-right = right document refl

-- ---- document 01, "Wrong answers that must be ruled out", where they concern reading
ruled_out : List Case
ruled_out =
    -- a tie whose odd bit is in the integer
    strict 10 i8f0 "1.5" gives raw 2
    ∷ strict 10 i8f0 "2.5" gives raw 2
    ∷ strict 10 u8f0 "1.5" gives raw 2
    ∷ strict 10 u8f0 "2.5" gives raw 2
    -- a digit after forty zeros, and only the zeros
    ∷ strict 10 i8f0 "2.50000000000000000000000000000000000000000" gives raw 2
    ∷ strict 10 i8f0 "2.500000000000000000000000000000000000000001" gives raw 3
    ∷ strict 10 i4f4 "0.0312500000000000000000000000000000000000000001" gives raw 1
    ∷ literal u32f32 "0.000000000116415321826934814453125" gives raw 0
    ∷ literal u32f32 "0.0000000001164153218269348144531250000000000000000000000000000000000000000001" gives raw 1
    -- W = F: up to 1 is an overflow
    ∷ strict 10 u0f8 "0.998" gives raw 255
    ∷ strict 10 u0f8 "0.998046875" gives refused 10
    ∷ wrapping 10 u0f8 "0.998046875" gives raw 0
    ∷ saturating 10 u0f8 "0.998046875" gives raw 255
    ∷ strict 10 u0f64 "0.99999999999999999999" gives refused 10
    ∷ strict 10 i0f8 "0.498046875" gives refused 10
    ∷ strict 10 i0f8 "-0.501953125" gives minus 128
    -- held by its own sign, not by the wrapped one's
    ∷ saturating 10 i8f0 "384" gives raw 127
    ∷ wrapping 10 i8f0 "384" gives minus 128
    ∷ saturating 10 i8f0 "-385" gives minus 128
    ∷ wrapping 10 i8f0 "-385" gives raw 127
    ∷ []

ruled-out-right : Right ruled_out
unfolding ruled_out computed
ruled-out-right = right ruled_out refl

-- ---- the refusals 1, 2, 3, 4 go in this order, and before those of the text (120 is `x`)
faults : List Case
faults =
    strict 3 (format signed 7 9) "x" gives refused 1
    ∷ strict 3 (format signed 8 9) "x" gives refused 2
    ∷ strict 3 (format signed 8 8) "x" gives refused 3
    ∷ strict 10 (format signed 8 8) "x" gives refused 13
    ∷ plain Strict signed 8 8 3 (replicate 4097 120) gives refused 3
    ∷ plain Strict signed 8 8 10 (replicate 4097 120) gives refused 4
    ∷ plain Strict signed 8 8 10 (replicate 4096 120) gives refused 13
    ∷ literal (format unsigned 7 9) "x" gives refused 1
    ∷ literal (format unsigned 8 9) "x" gives refused 2
    ∷ literally unsigned 8 8 (replicate 4097 120) gives refused 4
    ∷ literally unsigned 8 8 (replicate 4096 120) gives refused 13
    ∷ literal (format unsigned 8 8) "x" gives refused 13
    ∷ []

faults-right : Right faults
unfolding faults computed
faults-right = right faults refl

-- ---- the radixes, and docs/GRAMMAR.md, "Classes of bytes": of all 256, which are of a class
from : ℕ → ℕ → List ℕ
from b zero = []
from b (suc n) = b ∷ from (b + 1) n

picked : (ℕ → Bool) → List ℕ → List ℕ
picked class [] = []
picked class (b ∷ t) = cond (class b) (b ∷ picked class t) (picked class t)

abbrev Are : (ℕ → Bool) → String → Type 0
Are class t = picked class (from 0 256) ≡ bytes t

classes-right : (picked is_radix (from 0 256) ≡ 2 ∷ 8 ∷ 10 ∷ 16 ∷ [])
    × Are is_sign "+-"
    × Are (is_digit 2) "01"
    × Are (is_digit 8) "01234567"
    × Are (is_digit 10) "0123456789"
    × Are (is_digit 16) "0123456789ABCDEFabcdef"
    × Are (is_mark 2) "@EPep"
    × Are (is_mark 8) "@EPep"
    × Are (is_mark 10) "@Ee"
    × Are (is_mark 16) "@Pp"
    × (map digit_of (bytes "0123456789abcdef") ≡ from 0 16)
    × (map digit_of (bytes "ABCDEF") ≡ from 10 6)
    × (map (base_of 16) (bytes "@Pp") ≡ 16 ∷ 2 ∷ 2 ∷ [])
    × (map (base_of 8) (bytes "@EPep") ≡ 8 ∷ 8 ∷ 2 ∷ 8 ∷ 2 ∷ [])
unfolding from picked answer
classes-right = (refl, refl, refl, refl, refl, refl, refl, refl, refl, refl, refl, refl, refl, refl)

-- ---- docs/GRAMMAR.md, "The automaton": a text for each state, and the answer when a sign, a point, `_`, a mark, a digit or another byte
-- follows and the text ends there: 0 for a number
number : Outcome → ℕ
number (done x f) = 0
number (refused n) = n

answers : (List ℕ → Outcome) → String → List ℕ
answers read t = map (λ (b : ℕ). number (read (bytes t ++ (b ∷ [])))) (bytes "+._e1x")

abbrev plain_after : String → List ℕ
plain_after = answers (read_of Strict signed 64 0 10)

abbrev literal_after : String → List ℕ
literal_after = answers (literal_of signed 64 0)

automaton-right : (plain_after "" ≡ 11 ∷ 11 ∷ 13 ∷ 11 ∷ 0 ∷ 13 ∷ [])
    × (plain_after "+" ≡ 12 ∷ 11 ∷ 13 ∷ 11 ∷ 0 ∷ 13 ∷ [])
    × (plain_after "1" ≡ 12 ∷ 0 ∷ 13 ∷ 17 ∷ 0 ∷ 13 ∷ [])
    × (plain_after "1." ≡ 12 ∷ 15 ∷ 13 ∷ 17 ∷ 0 ∷ 13 ∷ [])
    × (plain_after "1.2" ≡ 12 ∷ 15 ∷ 13 ∷ 17 ∷ 0 ∷ 13 ∷ [])
    × (plain_after "1e" ≡ 17 ∷ 16 ∷ 16 ∷ 18 ∷ 0 ∷ 16 ∷ [])
    × (plain_after "1e+" ≡ 12 ∷ 16 ∷ 16 ∷ 18 ∷ 0 ∷ 16 ∷ [])
    × (plain_after "1e1" ≡ 12 ∷ 16 ∷ 16 ∷ 18 ∷ 0 ∷ 16 ∷ [])
    × (literal_after "" ≡ 12 ∷ 11 ∷ 14 ∷ 11 ∷ 0 ∷ 13 ∷ [])
    × (literal_after "-" ≡ 12 ∷ 11 ∷ 14 ∷ 11 ∷ 0 ∷ 13 ∷ [])
    × (literal_after "1" ≡ 12 ∷ 0 ∷ 0 ∷ 17 ∷ 0 ∷ 13 ∷ [])
    × (literal_after "1." ≡ 12 ∷ 15 ∷ 14 ∷ 17 ∷ 0 ∷ 13 ∷ [])
    × (literal_after "1.2" ≡ 12 ∷ 15 ∷ 0 ∷ 17 ∷ 0 ∷ 13 ∷ [])
    × (literal_after "1e" ≡ 17 ∷ 16 ∷ 14 ∷ 18 ∷ 0 ∷ 16 ∷ [])
    × (literal_after "1e+" ≡ 12 ∷ 16 ∷ 14 ∷ 18 ∷ 0 ∷ 16 ∷ [])
    × (literal_after "1e1" ≡ 12 ∷ 16 ∷ 0 ∷ 18 ∷ 0 ∷ 16 ∷ [])
unfolding number answers answer
automaton-right = (refl, refl, refl, refl, refl, refl, refl, refl, refl, refl, refl, refl, refl, refl, refl, refl)

-- ---- docs/GRAMMAR.md, "Telling texts": the plain reader
telling : List Case
telling =
    strict 10 i4f4 "" gives refused 11
    ∷ strict 10 i4f4 "+" gives refused 11
    ∷ strict 10 i4f4 "." gives refused 11
    ∷ strict 10 i4f4 "e" gives refused 11
    ∷ strict 10 i4f4 ".e1" gives refused 11
    ∷ strict 10 i4f4 "e5x" gives refused 16
    ∷ strict 10 i4f4 "5." gives raw 80
    ∷ strict 10 i4f4 ".5" gives raw 8
    ∷ strict 10 i4f4 "+1" gives raw 16
    ∷ strict 10 i4f4 "+-1" gives refused 12
    ∷ strict 10 i4f4 "1-" gives refused 12
    ∷ strict 10 i4f4 ".-1" gives refused 12
    ∷ strict 10 i12f4 "1_0" gives refused 13
    ∷ strict 10 i12f4 "1e1_" gives refused 16
    ∷ strict 10 i12f4 "12a" gives refused 13
    ∷ strict 2 i12f4 "102" gives refused 13
    ∷ strict 8 i12f4 "18" gives refused 13
    ∷ strict 10 i12f4 "1.2.3" gives refused 15
    ∷ strict 10 i12f4 "1..e" gives refused 15
    ∷ strict 10 i12f4 "1e1." gives refused 16
    ∷ strict 10 i12f4 "1e" gives refused 17
    ∷ strict 10 i12f4 "1e-" gives refused 17
    ∷ strict 10 i12f4 "1e1e1" gives refused 18
    ∷ strict 10 i12f4 "1e@" gives refused 18
    ∷ strict 10 i12f4 "1e+-1" gives refused 12
    ∷ strict 10 i12f4 "1e1+" gives refused 12
    ∷ strict 10 i12f4 "1p1" gives refused 13
    ∷ strict 10 i12f4 "1e1p" gives refused 16
    ∷ strict 8 i12f4 "1e1p" gives refused 18
    ∷ strict 16 i12f4 "1e1" gives raw 7696
    ∷ strict 16 i12f4 "1@1e" gives refused 16
    ∷ strict 16 i12f4 "1@1" gives raw 256
    ∷ strict 16 i12f4 "1p1" gives raw 32
    ∷ strict 8 i12f4 "1e1" gives raw 128
    ∷ strict 8 i12f4 "1P+3" gives raw 128
    ∷ strict 2 i12f4 "1e3" gives raw 128
    ∷ strict 2 u32f32 "1e10" gives raw 4398046511104
    ∷ strict 10 i4f4 "0.03e2" gives raw 48
    ∷ strict 10 i4f4 "1e2147483648" gives refused 19
    ∷ strict 10 i4f4 "1e-2147483649" gives refused 19
    ∷ strict 10 i4f4 "e2147483648x" gives refused 19
    ∷ strict 10 i12f4 "1e0000000000001" gives raw 160
    ∷ strict 10 i4f4 "7.96875" gives refused 10
    ∷ saturating 10 i4f4 "7.96875" gives raw 127
    ∷ wrapping 10 i4f4 "7.96875" gives minus 128
    ∷ strict 10 i4f4 "-8.03125" gives minus 128
    ∷ strict 10 u8f0 "-0.4" gives raw 0
    ∷ strict 10 u8f0 "-0.6" gives refused 10
    ∷ strict 10 i8f0 "2.5" gives raw 2
    ∷ []

telling-right : Right telling
unfolding telling computed
telling-right = right telling refl

-- ---- and the literal reader
telling-literals : List Case
telling-literals =
    literal i8f8 "" gives refused 11
    ∷ literal i8f8 "-" gives refused 11
    ∷ literal u8f8 "-" gives refused 12
    ∷ literal u8f8 "-0" gives refused 12
    ∷ literal i8f8 "+1" gives refused 12
    ∷ literal i8f8 "--1" gives refused 12
    ∷ literal i8f8 "0x-1" gives refused 12
    ∷ literal i8f8 "-0x1" gives minus 256
    ∷ literal i8f8 "0X1" gives refused 13
    ∷ literal i8f8 "0x" gives refused 11
    ∷ literal i8f8 "0x__1" gives raw 256
    ∷ literal i8f8 "0b1.1" gives raw 384
    ∷ literal i8f8 "0o17" gives raw 3840
    ∷ literal i8f8 "0_x1" gives refused 13
    ∷ literal i8f8 "00x1" gives refused 13
    ∷ literal i8f8 "_1" gives refused 14
    ∷ literal i8f8 "1._5" gives refused 14
    ∷ literal i8f8 "1e_1" gives refused 14
    ∷ literal i8f8 "1e-_1" gives refused 14
    ∷ literal i8f8 "1__2_.5_e0_" gives raw 3200
    ∷ literal i8f8 "1e+1" gives raw 2560
    ∷ literal i16f16 "0.127_5e2" gives raw 835584
    ∷ literal i16f16 "0x_18@-1" gives raw 98304
    ∷ []

telling-literals-right : Right telling-literals
unfolding telling-literals computed
telling-literals-right = right telling-literals refl

-- ---- texts that read alike: the point and the exponent, zeros at the end, a literal and the plain text that it stands for
alike : List Case
alike =
    strict 10 i8f8 "12.75" gives raw 3264
    ∷ strict 10 i8f8 "1275e-2" gives raw 3264
    ∷ strict 10 i8f8 "0.1275e+2" gives raw 3264
    ∷ strict 10 i8f8 "12.750000" gives raw 3264
    ∷ literal i8f8 "12.75" gives raw 3264
    ∷ literal i8f8 "0x__C_.c_" gives raw 3264
    ∷ strict 16 i8f8 "C.c" gives raw 3264
    ∷ []

alike_right : Right alike
unfolding alike computed
alike_right = right alike refl

-- ---- Telling texts whose numbers are not to be written out: the scan is computed, and the answer follows from how far the exponent goes.
abbrev far : ℕ → Bool → ℕ → Written
far d down e = record { neg = false; digits = d ∷ []; after = 0; base = 10; down = down; exp = e }

taken : (t : String) (x : Written) → length (bytes t) ≤ text_limit → reading_of (plain_scan 10 (bytes t)) ≡ numberRead x → Taken 8 4 10 (bytes t) x
unfolding fault_of is_width is_radix
taken t x h e = record { format = refl; legal = refl; short = h; scanned = plain-scanned 10 (bytes t) ∙ e }

largest : Taken 8 4 10 (bytes "1e2147483647") (far 1 false 2147483647)
unfolding computed reading_of
largest = taken "1e2147483647" (far 1 false 2147483647) (lit≤ tt) refl

largest-zero : Taken 8 4 10 (bytes "0e2147483647") (far 0 false 2147483647)
unfolding computed reading_of
largest-zero = taken "0e2147483647" (far 0 false 2147483647) (lit≤ tt) refl

smallest : Taken 8 4 10 (bytes "1e-2147483648") (far 1 true 2147483648)
unfolding computed reading_of
smallest = taken "1e-2147483648" (far 1 true 2147483648) (lit≤ tt) refl

-- a magnitude of 0 fits
nothing : {m : ℕ} → m ≡ 0 → settle Strict signed 8 (with_sign false m) ≡ raw 0
unfolding settle fits lowest highest with_sign
nothing e = rw e

largest-strict : answer (strict 10 i4f4 "1e2147483647") ≡ refused 10
unfolding answer nat_from
largest-strict = read_as largest Strict signed ∙ huge-over signed 8 10 4 (far 1 false 2147483647) (lit≤ tt) (lit≤ tt) refl refl (lit≤ tt) (lit≤ tt)

largest-wrapping : answer (wrapping 10 i4f4 "1e2147483647") ≡ raw 0
unfolding answer
largest-wrapping = read_as largest Wrapping signed ∙ huge-wraps signed 8 10 5 4 (far 1 false 2147483647) (lit≤ tt) (lit≤ tt) refl refl refl (lit≤ tt)

largest-zero-strict : answer (strict 10 i4f4 "0e2147483647") ≡ raw 0
unfolding answer nat_from
largest-zero-strict = read_as largest-zero Strict signed ∙ nothing (nothing_written 10 4 (far 0 false 2147483647) (den-positive largest-zero) refl)

smallest-strict : answer (strict 10 i4f4 "1e-2147483648") ≡ raw 0
unfolding answer nat_from
smallest-strict = read_as smallest Strict signed ∙ nothing (huge-under 10 4 1 (far 1 true 2147483648) (lit≤ tt) (lit≤ tt) refl (lit≤ tt) (lit≤ tt))
