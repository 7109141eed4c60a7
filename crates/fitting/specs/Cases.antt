-- Small files, computed from the meaning. `\n` is LF and `\r` is CR. Assumes nothing.
use Rattle.std.specs.Prelude.{◌≡◌, refl, List, [], ◌∷◌, ℕ, ◌+◌, ℤ, pos, negsuc, replicate, Ok, Err}
use Prim.Native.String.{String}
use Rattle.laws.specs.Nearest.{nearest_even, nearest_by}
use Rattle.laws.specs.Text.{bytes}
use Rattle.format.specs.Meaning.{is_width, fault_of, lowest, highest, fits, settle, with_sign, answered, number_in, value_in, number, named, guarded}
use Rattle.grammar.specs.Meaning.{digit_of, is_mark, exponent_from, digits_from, prefix_mark, prefix_radix, drop_underscores}
use Rattle.grammar.specs.Meaning.{literal_minus, literal_reading, nat_from, num, den, raw_of, outcome_of, literal_of}
use Rattle.filter.specs.Meaning.{most_taps}
use Rattle.value_lines.specs.Meaning.{file_limit, onto, lines_of, is_value, values_from, values_of, answer_of, raw_at, number_at}
use Rattle.fitting.specs.declared.FileRefusal.TheVariants.{Whole, Line}
use Rattle.fitting.specs.Meaning.{FileAnswer, judge, accepted, room_fault, file_fault, fitted, fitted_of}

-- a list and taps of some places, all 7
abbrev sevens : ℕ → List ℕ
sevens n = replicate n 7

abbrev signed-sevens : ℕ → List ℤ
signed-sevens n = replicate n (pos 7)

-- with n places each: the answer, the line numbers, the raws, the answers, the taps
abbrev Gives : String → ℕ → FileAnswer → List ℕ → List ℤ → List ℕ → List ℤ → Type 0
Gives file n answer lines raws answers taps =
    fitted_of (bytes file) (sevens n) (signed-sevens n) (sevens n) (signed-sevens n) ≡ fitted answer lines raws answers taps

-- the same where nothing is changed
abbrev Untouched : String → ℕ → ℕ → Type 0
Untouched file n number = Gives file n (Err (Whole (named number))) (sevens n) (signed-sevens n) (sevens n) (signed-sevens n)

-- two values with a comment and an empty line; the last line has no LF; the third place stays
pub taps-case : Gives "# taps\n0.5\n\n-1" 3 (Ok 2) (2 ∷ 4 ∷ 7 ∷ []) (pos 16384 ∷ negsuc 32767 ∷ pos 7 ∷ []) (0 ∷ 0 ∷ 7 ∷ [])
    (pos 16384 ∷ negsuc 32767 ∷ pos 7 ∷ [])
unfolding fitted_of file_fault room_fault values_of values_from lines_of onto is_value answer_of raw_at number_at judge accepted bytes answered number_in value_in number named guarded
    fault_of is_width lowest highest fits settle with_sign digit_of is_mark exponent_from digits_from prefix_mark prefix_radix drop_underscores literal_minus
    literal_reading nat_from num den raw_of outcome_of literal_of nearest_even nearest_by
taps-case = refl

-- the second line is refused, 1 does not fit; the third is read all the same; the taps stay
pub line-case : Gives "0.5\n1\n0x0.8\n+0.5" 4 (Err (Line 2 10)) (1 ∷ 2 ∷ 3 ∷ 4 ∷ []) (pos 16384 ∷ pos 0 ∷ pos 16384 ∷ pos 0 ∷ []) (0 ∷ 10 ∷ 0 ∷ 12 ∷ [])
    (signed-sevens 4)
unfolding fitted_of file_fault room_fault values_of values_from lines_of onto is_value answer_of raw_at number_at judge accepted bytes answered number_in value_in number named guarded
    fault_of is_width lowest highest fits settle with_sign digit_of is_mark exponent_from digits_from prefix_mark prefix_radix drop_underscores literal_minus
    literal_reading nat_from num den raw_of outcome_of literal_of nearest_even nearest_by
line-case = refl

-- CR belongs to its line, and so do blanks; `#` starts a comment only where it stands first
pub damaged-cases :
    Gives "0.5\r\n" 1 (Err (Line 1 13)) (1 ∷ []) (pos 0 ∷ []) (13 ∷ []) (signed-sevens 1)
    × (Gives " #" 1 (Err (Line 1 13)) (1 ∷ []) (pos 0 ∷ []) (13 ∷ []) (signed-sevens 1)
    × Gives "0.5 # half" 1 (Err (Line 1 13)) (1 ∷ []) (pos 0 ∷ []) (13 ∷ []) (signed-sevens 1))
unfolding fitted_of file_fault room_fault values_of values_from lines_of onto is_value answer_of raw_at number_at judge accepted bytes answered number_in value_in number named guarded
    fault_of is_width lowest highest fits settle with_sign digit_of is_mark exponent_from digits_from prefix_mark prefix_radix drop_underscores literal_minus
    literal_reading nat_from num den raw_of outcome_of literal_of nearest_even nearest_by
damaged-cases = (refl, (refl, refl))

-- no value; a place too few, also where a line is refused
pub refusal-cases :
    Untouched "" 1 40
    × (Untouched "# nothing\n\n" 1 40
    × (Untouched "0.5\n0.25\n" 1 5
    × Untouched "0.5\nx\n" 1 5))
unfolding fitted_of guarded file_fault room_fault values_of values_from lines_of onto is_value bytes
refusal-cases = (refl, (refl, (refl, refl)))

-- several apply: 4 before 41, 41 before 5, 5 before 40
pub order-cases :
    (file_fault (file_limit + 1) (most_taps + 1) 0 1 2 0 ≡ 4)
    × ((file_fault file_limit (most_taps + 1) 0 1 2 0 ≡ 41)
    × ((file_fault file_limit 0 0 1 2 0 ≡ 5)
    × (file_fault file_limit 0 0 0 0 0 ≡ 40)))
unfolding file_fault room_fault
order-cases = (refl, (refl, (refl, refl)))
