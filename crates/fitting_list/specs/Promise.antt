-- What `read_list` promises, refusals included, and that nothing is left open: two outcomes
-- that meet the promise are equal. Assumes nothing.
use Rattle.std.specs.Prelude.{◌≡◌, List, ℕ, ℤ}
use Rattle.std.proofs.Common.{sym, ◌∙◌}
use Rattle.fitting.specs.Meaning.{FileAnswer}
use Rattle.fitting.specs.Promise.{Reads}
use Rattle.fitting_list.specs.declared.Entry.{Entry}
use Rattle.fitting_list.specs.Meaning.{records, records_of, lines_in, raws_in, answers_in}

abbrev pub ReadsList : List ℕ → List Entry → List ℤ → FileAnswer → List Entry → List ℤ → Type 0
ReadsList file list taps r list' taps' = records r list' taps' ≡ records_of file list taps

-- what `fitting::read` promises, of the list's line numbers, raws and answers as its three slices
abbrev pub ReadsParts : List ℕ → List Entry → List ℤ → FileAnswer → List Entry → List ℤ → Type 0
ReadsParts file list taps r list' taps' =
    Reads file (lines_in list) (raws_in list) (answers_in list) taps r
    (lines_in list') (raws_in list') (answers_in list') taps'

pub read-list-unique : (file : List ℕ) (list : List Entry) (taps : List ℤ) (a b : FileAnswer) (l m : List Entry)
    (t u : List ℤ)
    → ReadsList file list taps a l t → ReadsList file list taps b m u → records a l t ≡ records b m u
read-list-unique file list taps a b l m t u p q = p ∙ sym q
