-- The fitting file with its list as records: document 01, module 9. Assumes nothing.
use Rattle.std.specs.Prelude.{Err, cond, List, map, ℕ, ℤ, length}
use Rattle.format.specs.Meaning.{named, guarded}
use Rattle.value_lines.specs.Meaning.{ValueLine, values_of, line_number, raw_at, number_at, over}
use Rattle.fitting.specs.declared.FileRefusal.TheVariants.{Whole}
use Rattle.fitting.specs.Meaning.{FileAnswer, judge_all, accepted, file_fault, Fitted, fitted}
use Rattle.fitting_list.specs.declared.Entry.{Entry}

-- "A list with line number, raw and answer for each value"
abbrev pub entry_of : ValueLine → Entry
entry_of v = record { line = line_number v; raw = raw_at v; answer = number_at v }

-- the answer, the list and the taps as the call leaves them
pub record Listed : Type 0 where
  pub answer : FileAnswer
  pub list : List Entry
  pub taps : List ℤ

abbrev pub records : FileAnswer → List Entry → List ℤ → Listed
records answer list taps = record { answer = answer; list = list; taps = taps }

unfoldable pub records_of : List ℕ → List Entry → List ℤ → Listed
records_of file list taps =
    guarded (file_fault (length file) (length (values_of file)) (length list) (length list) (length list) (length taps))
    (λ n. records (Err (Whole (named n))) list taps)
    (records (judge_all (values_of file)) (over (map entry_of (values_of file)) list)
    (cond (accepted (values_of file)) (over (map raw_at (values_of file)) taps) taps))

-- ---- The same as `fitting::read` has it, with the list in three parts of one length: line numbers, raws and answers.
abbrev pub lines_in : List Entry → List ℕ
lines_in list = map (λ (e : Entry). e.line) list

abbrev pub raws_in : List Entry → List ℤ
raws_in list = map (λ (e : Entry). e.raw) list

abbrev pub answers_in : List Entry → List ℕ
answers_in list = map (λ (e : Entry). e.answer) list

abbrev pub in_parts : Listed → Fitted
in_parts f = fitted f.answer (lines_in f.list) (raws_in f.list) (answers_in f.list) f.taps
