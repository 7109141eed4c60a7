-- The lines of a file as the code cuts it: the parts between LFs. They are the meaning's lines, but for an empty one that may come last. Assumes nothing.
use Rattle.std.specs.Prelude.{◌≡◌, refl, ◌⊎◌, Bool, true, false, cond, List, [], ◌∷◌, ◌++◌, ℕ, ◌+◌, ◌≤◌, ◌<◌, eqb, length, get_or}
use Rattle.std.specs.List.{slice_split, onto_first}
use Rattle.std.proofs.Common.{ap, ◌∙◌, inl, inr, arith, ne_eqb}
use Rattle.value_lines.specs.Meaning.{line_feed, hash, onto, lines_of, is_value, value_line, values_from}

abbrev pub parts_of : List ℕ → List (List ℕ)
parts_of file = slice_split (λ b. eqb b line_feed) file

onto-same : (b : ℕ) (lines : List (List ℕ)) → onto_first b lines ≡ onto b lines
unfolding onto
onto-same b [] = refl
onto-same b (line ∷ lines) = refl

-- the lines, or the lines and an empty part
pub parts-are : (file : List ℕ) → (parts_of file ≡ lines_of file) ⊎ (parts_of file ≡ lines_of file ++ [] ∷ [])
unfolding lines_of onto
parts-are [] = inr refl
parts-are (b ∷ file) = go (eqb b line_feed) (parts_of file) (lines_of file) (parts-are file)
  where
    go : (e : Bool) (parts lines : List (List ℕ)) → (parts ≡ lines) ⊎ (parts ≡ lines ++ [] ∷ [])
        → (cond e ([] ∷ parts) (onto_first b parts) ≡ cond e ([] ∷ lines) (onto b lines))
        ⊎ (cond e ([] ∷ parts) (onto_first b parts) ≡ cond e ([] ∷ lines) (onto b lines) ++ [] ∷ [])
    go true parts lines (inl h) = inl (ap (λ (l : List (List ℕ)). [] ∷ l) h)
    go true parts lines (inr h) = inr (ap (λ (l : List (List ℕ)). [] ∷ l) h)
    go false parts lines (inl h) = inl (ap (onto_first b) h ∙ onto-same b lines)
    go false parts [] (inr h) = inl (ap (onto_first b) h)
    go false parts (line ∷ lines) (inr h) = inr (ap (onto_first b) h)

-- ---- the value lines of a line and those after it
pub value-more : (n : ℕ) (line : List ℕ) (lines : List (List ℕ)) → is_value line ≡ true
    → values_from n (line ∷ lines) ≡ value_line n line ∷ values_from (n + 1) lines
unfolding values_from
value-more n line lines e = rw e

pub value-skip : (n : ℕ) (line : List ℕ) (lines : List (List ℕ)) → is_value line ≡ false → values_from n (line ∷ lines) ≡ values_from (n + 1) lines
unfolding values_from
value-skip n line lines e = rw e

-- ---- whether a line holds a value, as the code asks
pub value_none : (line : List ℕ) → length line < 1 → false ≡ is_value line
unfolding is_value
value_none [] h = refl
value_none (b ∷ line) h = absurd (omega arith)

pub value-hash : (line : List ℕ) → 1 ≤ length line → get_or line 0 0 ≡ hash → false ≡ is_value line
unfolding is_value
value-hash [] h e = absurd (omega arith)
value-hash (b ∷ line) h e = rw e refl

pub value-other : (line : List ℕ) → 1 ≤ length line → (get_or line 0 0 ≡ hash → ⊥) → true ≡ is_value line
unfolding is_value
value-other [] h n = absurd (omega arith)
value-other (b ∷ line) h n = rw (ne_eqb b hash n) refl
