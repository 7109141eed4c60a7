-- What is proved of `records_of`: it is `fitted_of` with the list as records. So what is proved of the one holds of the other.
-- The idea: an entry of a value is its three parts, and a list that is written over in its first places is so in each part. Assumes nothing.
use Rattle.std.specs.Prelude.{◌≡◌, refl, Bool, true, false, cond, List, map, ℕ, ℤ, length, drop, eqb}
use Rattle.std.proofs.lemmas.List.{length-map, map-append, drop-map}
use Rattle.std.proofs.lemmas.Simd.{map-map}
use Rattle.format.specs.Meaning.{guarded}
use Rattle.value_lines.specs.Meaning.{ValueLine, values_of, over}
use Rattle.fitting.specs.Meaning.{file_fault, fitted_of}
use Rattle.fitting_list.specs.declared.Entry.{Entry}
use Rattle.fitting_list.specs.Meaning.{entry_of, records_of, lines_in, raws_in, answers_in, in_parts}

over-part : {B : Type 0} (f : Entry → B) (vs : List ValueLine) (xs : List Entry)
    → map f (over (map entry_of vs) xs) ≡ over (map (λ (v : ValueLine). f (entry_of v)) vs) (map f xs)
over-part f vs xs =
    rw (
      map-append f (map entry_of vs) (drop (length (map entry_of vs)) xs),
      map-map f entry_of vs,
      length-map vs entry_of,
      length-map vs (λ (v : ValueLine). f (entry_of v)),
      drop-map f (length vs) xs,
    )

-- either way of a choice
either_way : {A B : Type 0} (f : A → B) (b : Bool) {x y : A} {x' y' : B} → f x ≡ x' → f y ≡ y' → f (cond b x y) ≡ cond b x' y'
either_way f true p q = p
either_way f false p q = q

-- THE TIE. Answer, taps, and the list's line numbers, raws and answers are those of `fitted_of`.
pub tie : (file : List ℕ) (xs : List Entry) (taps : List ℤ)
    → in_parts (records_of file xs taps) ≡ fitted_of file (lines_in xs) (raws_in xs) (answers_in xs) taps
unfolding records_of fitted_of guarded
tie file xs taps =
    let vs = values_of file in
    let n = length xs in
    rw (length-map xs (λ (e : Entry). e.line), length-map xs (λ (e : Entry). e.raw), length-map xs (λ (e : Entry). e.answer))
    (either_way in_parts (eqb (file_fault (length file) (length vs) n n n (length taps)) 0)
    (rw (over-part (λ (e : Entry). e.line) vs xs, over-part (λ (e : Entry). e.raw) vs xs, over-part (λ (e : Entry). e.answer) vs xs))
    refl)
