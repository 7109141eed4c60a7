-- The list of `read_list`: what the arrays hold for a value is its entry, and with an entry for each value the list is
-- the promised one; and that the outcome is. Assumes nothing.
use Rattle.std.specs.Prelude.{◌≡◌, refl, Err, List, [], ◌++◌, map, ℤ, pos, take, drop, get_or}
use Rattle.std.proofs.Math.Path.{sym}
use Rattle.std.proofs.Common.{ap, ◌∙◌, arith}
use Prim.Native.Nat.{ℕ, ◌≤◌, ◌<◌}
use Rattle.std.proofs.Math.ListN.{length, get_or-append, get_or-map}
use Rattle.std.proofs.lemmas.List.{length-map, length-take-le, drop_all, append-nil, get_or_default}
use Rattle.value_lines.specs.Held.{Held, held_all}
use Rattle.value_lines.specs.Store.{AllEntered}
use Rattle.value_lines.specs.Meaning.{ValueLine, value_line, values_of, line_number, raw_at, number_at, over}
use Rattle.format.specs.declared.refusal.Refusal.{Refusal}
use Rattle.format.specs.Meaning.{guarded}
use Rattle.filter.specs.Refuse.{refuses}
use Rattle.fitting.specs.declared.FileRefusal.TheVariants.{Whole}
use Rattle.fitting.specs.Meaning.{FileAnswer, file_fault, Fitted, fitted, listed}
use Rattle.fitting.specs.Read.{roomy_of}
use Rattle.fitting.specs.Room.{checked_of}
use Rattle.fitting_list.specs.declared.Entry.{Entry}
use Rattle.fitting_list.specs.Meaning.{entry_of, records, records_of}
use Rattle.fitting_list.specs.Records.{zero-places, signed-zeros}

-- ---- an entry
abbrev pub no_line : ValueLine
no_line = value_line 0 []

-- what an array holds for a value
over-at : {B : Type 0} (f : ValueLine → B) (vs : List ValueLine) (old : List B) (i : ℕ) (d : B) → i < length vs
    → get_or (over (map f vs) old) i d ≡ f (get_or vs i no_line)
over-at f vs old i d h =
    let there : i < length (map f vs) = rw (length-map vs f) h in
    get_or-append (map f vs) (drop (length (map f vs)) old) d i there
    ∙ get_or_default (map f vs) i d (f no_line) there ∙ get_or-map f vs i no_line

abbrev at_place : List ℕ → List ℤ → List ℕ → ℕ → Entry
at_place lines raws answers i =
    record { line = get_or lines i 0; raw = get_or raws i (pos 0); answer = get_or answers i 0 }

module _ {vs : List ValueLine} {lines : List ℕ} {raws : List ℤ} {answers : List ℕ}
    (is : AllEntered vs zero-places signed-zeros zero-places lines raws answers) where
  pub entry-is : (i : ℕ) → i < length vs → at_place lines raws answers i ≡ get_or (map entry_of vs) i (entry_of no_line)
  entry-is i h =
      let a = ap (λ (l : List ℕ). get_or l i 0) is.lines_are ∙ over-at line_number vs zero-places i 0 h in
      let b = ap (λ (l : List ℤ). get_or l i (pos 0)) is.raws-are ∙ over-at raw_at vs signed-zeros i (pos 0) h in
      let c = ap (λ (l : List ℕ). get_or l i 0) is.answers-are ∙ over-at number_at vs zero-places i 0 h in
      rw (a, b, c) (sym (get_or-map entry_of vs i no_line))

-- ---- an entry for each value, in the first places
pub all-filled : {es ys : List Entry} (xs : List Entry) (n i : ℕ) → Held es i (take n xs) ys
    → length (take n xs) ≤ i → i ≤ length (take n xs) → n ≡ length es → n ≤ length xs → ys ++ drop n xs ≡ over es xs
all-filled {es} xs n i h past within q room =
    let size = length-take-le n xs room in
    let none : drop (length es) (take n xs) ≡ [] = drop_all (length es) (take n xs) (omega (arith, size)) in
    rw (held_all h (omega (arith, size)), none, append-nil, q) refl

-- ---- the outcome
module _ (file : List ℕ) (xs : List Entry) (taps : List ℤ) where
  abbrev fault : ℕ
  fault = file_fault (length file) (length (values_of file)) (length xs) (length xs) (length xs) (length taps)

  pub refused-all : {e : Refusal} → Err e ≡ checked_of file (length xs) (length xs) (length xs) (length taps)
      → records (Err (Whole e)) xs taps ≡ records_of file xs taps
  unfolding checked_of records_of
  refused-all r = refuses fault (length (values_of file)) (λ (e : Refusal). records (Err (Whole e)) xs taps) _ r

  pub handed : {lines : List ℕ} {raws : List ℤ} {answers : List ℕ} {answer : FileAnswer} {list : List Entry}
      {last : List ℤ} → fault ≡ 0
      → fitted answer lines raws answers last
      ≡ roomy_of (length xs) (length xs) (length xs) file zero-places signed-zeros zero-places taps
      → list ≡ over (map entry_of (values_of file)) xs → records answer list last ≡ records_of file xs taps
  unfolding records_of roomy_of guarded
  handed {lines} {raws} {answers} {answer} {list} {last} none is e =
      let all = listed (values_of file) zero-places signed-zeros zero-places taps in
      let told : fitted answer lines raws answers last ≡ all = is ∙ rw none in
      rw (ap (λ (t : Fitted). t.answer) told, ap (λ (t : Fitted). t.taps) told, e, none)
