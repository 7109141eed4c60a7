-- The parts of a file hold its values: what a part adds to the value lines, and how many these are. Assumes nothing.
use Rattle.std.specs.Prelude.{◌≡◌, ◌⊎◌, refl, Bool, true, false, cond, List, [], ◌∷◌, ◌++◌, ℕ, suc, ◌+◌, length, filter}
use Rattle.std.proofs.Common.{ap, ◌∙◌, inl, inr, append-nil}
use Rattle.value_lines.specs.Meaning.{lines_of, is_value, value_line, values_from}
use Rattle.value_lines.specs.Lines.{parts_of, parts-are}
use Rattle.value_lines.specs.Theorems.{values-append}

-- ---- the parts hold the file's values: an empty part holds none
pub parts-values : (n : ℕ) (file : List ℕ) → values_from n (parts_of file) ≡ values_from n (lines_of file)
unfolding values_from is_value
parts-values n file = go (parts-are file)
  where
    go : (parts_of file ≡ lines_of file) ⊎ (parts_of file ≡ lines_of file ++ [] ∷ []) → values_from n (parts_of file) ≡ values_from n (lines_of file)
    go (inl h) = ap (values_from n) h
    go (inr h) = ap (values_from n) h ∙ values-append n (lines_of file) ([] ∷ []) ∙ append-nil (values_from n (lines_of file))

-- the lines that hold a value are as many as the value lines
pub count-values : (n : ℕ) (lines : List (List ℕ)) → length (filter is_value lines) ≡ length (values_from n lines)
unfolding values_from
count-values n [] = refl
count-values n (line ∷ lines) = go (is_value line) (count-values (n + 1) lines)
  where
    go : (b : Bool) → length (filter is_value lines) ≡ length (values_from (n + 1) lines)
        → length (cond b (line ∷ filter is_value lines) (filter is_value lines))
        ≡ length (cond b (value_line n line ∷ values_from (n + 1) lines) (values_from (n + 1) lines))
    go true h = ap suc h
    go false h = h
