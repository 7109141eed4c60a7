-- What follows from the tie: the two promises agree, entry by entry. The idea: a list of records is its three parts. It stands here, and not in specs/, so
-- that the wrong meaning of must-fail/wrong_alike.edit is refused at the tie itself. Assumes nothing.
use Rattle.std.specs.Prelude.{◌≡◌, ◌↔◌, refl, List, [], ◌∷◌, ℕ, ℤ, drop}
use Rattle.std.proofs.Common.{sym, ap, ◌∙◌}
use Rattle.fitting.specs.Meaning.{FileAnswer, Fitted, fitted, fitted_of}
use Rattle.fitting_list.specs.declared.Entry.{Entry}
use Rattle.fitting_list.specs.Meaning.{Listed, records, records_of, lines_in, raws_in, answers_in, in_parts}
use Rattle.fitting_list.specs.Promise.{ReadsList, ReadsParts}
use Rattle.fitting_list.specs.Theorems.{tie}

-- a list of records is its three parts
same-list : (xs ys : List Entry) → lines_in xs ≡ lines_in ys → raws_in xs ≡ raws_in ys → answers_in xs ≡ answers_in ys → xs ≡ ys
same-list [] [] p q r = refl
same-list [] (y ∷ ys) p q r = cc
same-list (x ∷ xs) [] p q r = cc
same-list (x ∷ xs) (y ∷ ys) p q r =
    let a : x.line ≡ y.line = cc in
    let b : x.raw ≡ y.raw = cc in
    let c : x.answer ≡ y.answer = cc in
    let head : x ≡ y = λ i. record { line = a i; raw = b i; answer = c i } in
    let tail = same-list xs ys (ap (drop 1) p) (ap (drop 1) q) (ap (drop 1) r) in
    rw (head, tail)

same-parts : (f g : Listed) → in_parts f ≡ in_parts g → f ≡ g
same-parts f g e =
    let list = same-list f.list g.list (ap (λ (t : Fitted). t.lines) e) (ap (λ (t : Fitted). t.raws) e) (ap (λ (t : Fitted). t.answers) e) in
    let answer = ap (λ (t : Fitted). t.answer) e in
    let taps = ap (λ (t : Fitted). t.taps) e in
    λ i. record { answer = answer i; list = list i; taps = taps i }

-- THE TWO PROMISES AGREE: what meets the one meets the other.
pub agree : (file : List ℕ) (xs : List Entry) (taps : List ℤ) (r : FileAnswer) (ys : List Entry) (last : List ℤ)
    → ReadsList file xs taps r ys last ↔ ReadsParts file xs taps r ys last
agree file xs taps r ys last =
    let t = tie file xs taps in
    (λ e. ap in_parts e ∙ t, λ e. same-parts (records r ys last) (records_of file xs taps) (e ∙ sym t))

-- what `fitted_of` is proved to leave, `records_of` leaves
pub by-tie : (file : List ℕ) (xs : List Entry) (taps : List ℤ) (r : FileAnswer) (ys : List Entry) (last : List ℤ)
    → fitted_of file (lines_in xs) (raws_in xs) (answers_in xs) taps ≡ fitted r (lines_in ys) (raws_in ys) (answers_in ys) last
    → records_of file xs taps ≡ records r ys last
by-tie file xs taps r ys last e = sym ((agree file xs taps r ys last).1 (sym e))
