-- The list once all value lines are through. Assumes nothing.
use Rattle.std.specs.Prelude.{◌≡◌, List, map, ℕ, ℤ}
use Rattle.laws.specs.Unique.{unique}
use Rattle.value_lines.specs.Meaning.{ValueLine, line_number, raw_at, number_at, over}

-- every value line is in the list, and what stands past them is as it was
pub record AllEntered (vs : List ValueLine) (lines : List ℕ) (raws : List ℤ) (answers lines' : List ℕ) (raws' : List ℤ) (answers' : List ℕ) : Type 0 where
  pub lines_are : lines' ≡ over (map line_number vs) lines
  pub raws-are : raws' ≡ over (map raw_at vs) raws
  pub answers-are : answers' ≡ over (map number_at vs) answers

-- that settles the three slices
pub all-entered-unique : {vs : List ValueLine} {lines : List ℕ} {raws : List ℤ} {answers l m : List ℕ} {r s : List ℤ} {a b : List ℕ}
    → AllEntered vs lines raws answers l r a → AllEntered vs lines raws answers m s b → (l ≡ m) × ((r ≡ s) × (a ≡ b))
all-entered-unique p q =
    (unique p.lines_are q.lines_are, (unique p.raws-are q.raws-are, unique p.answers-are q.answers-are))
