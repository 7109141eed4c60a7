-- What the list says, from its line numbers and answers, and as the code finds it: from the first pair that is refused. Assumes nothing.
use Rattle.std.specs.Prelude.{◌≡◌, refl, Bool, true, false, cond, not, List, [], ◌∷◌, map, ℕ, eqb, Option, None, Some, Ok, Err}
use Rattle.std.specs.List.{find, zip}
use Rattle.value_lines.specs.Meaning.{ValueLine, line_number, number_at}
use Rattle.fitting.specs.declared.FileRefusal.TheVariants.{Line}
use Rattle.fitting.specs.Meaning.{FileAnswer, judge}

unfoldable pub judged_of : ℕ → List ℕ → List ℕ → FileAnswer
judged_of n lines [] = Ok n
judged_of n [] (a ∷ answers) = Ok n
judged_of n (l ∷ lines) (a ∷ answers) = cond (eqb a 0) (judged_of n lines answers) (Err (Line l a))

-- the list of the value lines says what they say
pub judged-is : (n : ℕ) (vs : List ValueLine) → judged_of n (map line_number vs) (map number_at vs) ≡ judge n vs
unfolding judged_of judge
judged-is n [] = refl
judged-is n (v ∷ vs) = rw (judged-is n vs)

-- ---- as the code looks: a line number beside its answer, and the first pair that is refused
abbrev pub refused_pair : ℕ × ℕ → Bool
refused_pair p = not (eqb p.1 0)

unfoldable pub told : ℕ → Option (ℕ × ℕ) → FileAnswer
told n None = Ok n
told n (Some p) = Err (Line p.0 p.1)

pub judged-told : (n : ℕ) (lines answers : List ℕ) → told n (find refused_pair (zip lines answers)) ≡ judged_of n lines answers
unfolding judged_of told
judged-told n [] [] = refl
judged-told n [] (a ∷ answers) = refl
judged-told n (l ∷ lines) [] = refl
judged-told n (l ∷ lines) (a ∷ answers) = go (eqb a 0) (judged-told n lines answers)
  where
    go : (b : Bool) → told n (find refused_pair (zip lines answers)) ≡ judged_of n lines answers
        → told n (cond (not b) (Some (l, a)) (find refused_pair (zip lines answers))) ≡ cond b (judged_of n lines answers) (Err (Line l a))
    go true h = h
    go false h = refl
