-- A file that the writer wrote gives its raws back in a list of records too, which is what `fit` reads into: `written_back` by the tie. Assumes nothing.
use Rattle.std.specs.Prelude.{◌≡◌, ◌≤◌, ℤ, List, map, length, Ok}
use Rattle.std.proofs.Common.{sym, ◌∙◌}
use Rattle.std.proofs.lemmas.List.{length-map}
use Rattle.filter.specs.Meaning.{most_taps}
use Rattle.value_lines.specs.Meaning.{values_of, line_number, number_at, over}
use Rattle.fitting.specs.Meaning.{fitted}
use Rattle.fitting_list.specs.declared.Entry.{Entry}
use Rattle.fitting_list.specs.Meaning.{records_of, lines_in, raws_in, answers_in, in_parts}
use Rattle.fitting_list.specs.Theorems.{tie}
use Rattle.written_file.specs.Written.{Raws, written_file, written_back}

-- with a place for each of 1 to 64 raws the answer is done, and the entries' raws and the taps are the raws
abbrev pub WrittenBackList : Type 0
WrittenBackList =
    (rs : List ℤ) → Raws rs → 1 ≤ length rs → length rs ≤ most_taps
    → (list : List Entry) (taps : List ℤ) → length rs ≤ length list → length rs ≤ length taps
    → in_parts (records_of (written_file rs) list taps)
    ≡ fitted (Ok (length rs)) (over (map line_number (values_of (written_file rs))) (lines_in list)) (over rs (raws_in list))
    (over (map number_at (values_of (written_file rs))) (answers_in list)) (over rs taps)

pub written_back_list : WrittenBackList
written_back_list rs range some few list taps room taps-room =
    let lines = length-map list (λ (e : Entry). e.line) in
    let same-raws = lines ∙ sym (length-map list (λ (e : Entry). e.raw)) in
    let same-answers = lines ∙ sym (length-map list (λ (e : Entry). e.answer)) in
    tie (written_file rs) list taps
    ∙ written_back rs range some few (lines_in list) (raws_in list) (answers_in list) taps same-raws same-answers (rw lines room) taps-room
