-- The value lines of a fitting file, over the list of its bytes: document 01, module 9. Assumes nothing.
use Rattle.std.specs.Prelude.{Bool, false, cond, not, List, [], ◌∷◌, ◌++◌, ℕ, ◌+◌, eqb, ℤ, length, drop}
use Rattle.format.specs.Meaning.{signed, signed_kind, Answered, answered, number_in, value_in}
use Rattle.grammar.specs.Meaning.{literal_of}

-- "4: .. fitting file above 16384" bytes
abbrev pub file_limit : ℕ
file_limit = 16384

-- LF and `#`
abbrev pub line_feed : ℕ
line_feed = 10

abbrev pub hash : ℕ
hash = 35

-- ---- "Lines ended by LF; the last may lack it."
unfoldable pub onto : ℕ → List (List ℕ) → List (List ℕ)
onto b [] = (b ∷ []) ∷ []
onto b (line ∷ lines) = (b ∷ line) ∷ lines

unfoldable pub lines_of : List ℕ → List (List ℕ)
lines_of [] = []
lines_of (b ∷ file) = cond (eqb b line_feed) ([] ∷ lines_of file) (onto b (lines_of file))

-- "Empty lines and lines starting with `#` are skipped"
unfoldable pub is_value : List ℕ → Bool
is_value [] = false
is_value (b ∷ line) = not (eqb b hash)

-- A value line, with its number: "line number (from 1)".
pub record ValueLine : Type 0 where
  pub number : ℕ
  pub text : List ℕ

abbrev pub value_line : ℕ → List ℕ → ValueLine
value_line n line = record { number = n; text = line }

-- the value lines of some lines, the first of which has the number n
unfoldable pub values_from : ℕ → List (List ℕ) → List ValueLine
values_from n [] = []
values_from n (line ∷ lines) =
    cond (is_value line) (value_line n line ∷ values_from (n + 1) lines) (values_from (n + 1) lines)

unfoldable pub values_of : List ℕ → List ValueLine
values_of file = values_from 1 (lines_of file)

-- ---- "each other line is one signed I1F15 literal, strict"
unfoldable pub answer_of : List ℕ → Answered ℤ
answer_of line = answered signed_kind (literal_of signed 16 15 line)

-- "A list with line number, raw and answer for each value": the number is 0 for a value, the raw is 0 where refused
abbrev pub line_number : ValueLine → ℕ
line_number v = v.number

unfoldable pub raw_at : ValueLine → ℤ
raw_at v = value_in signed_kind (answer_of v.text)

unfoldable pub number_at : ValueLine → ℕ
number_at v = number_in (answer_of v.text)

-- "List entries and taps past the last value stay as they were."
abbrev pub over : {A : Type 0} → List A → List A → List A
over new old = new ++ drop (length new) old
