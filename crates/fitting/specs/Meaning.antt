-- The fitting file over its value lines: document 01, module 9. Assumes nothing.
use Rattle.std.specs.Prelude.{Result, Ok, Err, Bool, true, false, cond, List, [], ◌∷◌, map, ℕ, leb, eqb, ℤ, length}
use Rattle.format.specs.Meaning.{number, named, guarded}
use Rattle.filter.specs.Meaning.{most_taps}
use Rattle.value_lines.specs.Meaning.{file_limit, ValueLine, values_of, line_number, raw_at, number_at, over}
use Rattle.fitting.specs.declared.FileRefusal.{FileRefusal}
use Rattle.fitting.specs.declared.FileRefusal.TheVariants.{Whole, Line}

-- the number of values, or the refusal
abbrev pub FileAnswer : Type 0
FileAnswer = Result ℕ FileRefusal

-- "42: .. line number (from 1) and inner answer of the first such line come with it"; n is the number of values
unfoldable pub judge : ℕ → List ValueLine → FileAnswer
judge n [] = Ok n
judge n (v ∷ vs) = cond (eqb (number_at v) 0) (judge n vs) (Err (Line v.number (number_at v)))

abbrev pub judge_all : List ValueLine → FileAnswer
judge_all vs = judge (length vs) vs

-- "the taps if none is refused"
unfoldable pub accepted : List ValueLine → Bool
accepted [] = true
accepted (v ∷ vs) = cond (eqb (number_at v) 0) (accepted vs) false

-- ---- What is refused before: "1, 2, 3, 4, 41, 5, 40 in this order"; 0 where nothing is.
-- 5: "lists of unequal length", "a list or taps buffer with fewer places than values"; "No value at all is 40"
unfoldable pub room_fault : ℕ → ℕ → ℕ → ℕ → ℕ → ℕ
room_fault values lines raws answers taps =
    cond (eqb lines raws)
    (cond (eqb lines answers)
    (cond (leb values lines)
    (cond (leb values taps)
    (cond (eqb values 0) 40 0) 5) 5) 5) 5

-- "fitting file above 16384" bytes is 4, "fitting file holds more than 64 values" is 41
unfoldable pub file_fault : ℕ → ℕ → ℕ → ℕ → ℕ → ℕ → ℕ
file_fault bytes values lines raws answers taps =
    cond (leb bytes file_limit) (cond (leb values most_taps) (room_fault values lines raws answers taps) 41) 4

-- ---- Number, values, line and inner answer of an answer: 42 for a refused line; 0 where a refusal has none.
unfoldable pub number_f : FileAnswer → ℕ
number_f (Ok n) = 0
number_f (Err (Whole e)) = number e
number_f (Err (Line line inner)) = 42

unfoldable pub values_f : FileAnswer → ℕ
values_f (Ok n) = n
values_f (Err (Whole e)) = 0
values_f (Err (Line line inner)) = 0

unfoldable pub line_f : FileAnswer → ℕ
line_f (Ok n) = 0
line_f (Err (Whole e)) = 0
line_f (Err (Line line inner)) = line

unfoldable pub inner_f : FileAnswer → ℕ
inner_f (Ok n) = 0
inner_f (Err (Whole e)) = 0
inner_f (Err (Line line inner)) = inner

-- ---- What the call leaves: the answer, and the four lent slices
pub record Fitted : Type 0 where
  pub answer : FileAnswer
  pub lines : List ℕ
  pub raws : List ℤ
  pub answers : List ℕ
  pub taps : List ℤ

abbrev pub fitted : FileAnswer → List ℕ → List ℤ → List ℕ → List ℤ → Fitted
fitted answer lines raws answers taps =
    record { answer = answer; lines = lines; raws = raws; answers = answers; taps = taps }

-- the list is written, "and the taps if none is refused"
abbrev pub listed : List ValueLine → List ℕ → List ℤ → List ℕ → List ℤ → Fitted
listed vs lines raws answers taps =
    fitted (judge_all vs) (over (map line_number vs) lines) (over (map raw_at vs) raws) (over (map number_at vs) answers)
    (cond (accepted vs) (over (map raw_at vs) taps) taps)

-- what is refused, or the list
unfoldable pub fitted_of : List ℕ → List ℕ → List ℤ → List ℕ → List ℤ → Fitted
fitted_of file lines raws answers taps =
    guarded
    (file_fault (length file) (length (values_of file)) (length lines) (length raws) (length answers) (length taps))
    (λ n. fitted (Err (Whole (named n))) lines raws answers taps)
    (listed (values_of file) lines raws answers taps)
