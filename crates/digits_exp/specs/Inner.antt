-- What inner functions of the second layer promise. No promise of a public function cites these. Assumes nothing.
use Rattle.std.specs.Prelude.{◌≡◌, List, ◌++◌, ℕ, ◌-◌, min, length}
use Rattle.digits_exp.specs.declared.Span.{Span}
use Rattle.digits_exp.specs.declared.DigitsExp.{DigitsExp}
use Rattle.digits_exp.specs.declared.IntFrac.{IntFrac}
use Rattle.digits_exp.specs.declared.Counts.{Counts}
use Rattle.laws.specs.Lists.{part}
use Rattle.digits.specs.Meaning.{trimmed}
use Rattle.digits_exp.specs.Meaning.{span_of, IsSpan, StandsDropped}

-- a view and a whole with no digits
abbrev pub Empty : Span → Type 0
Empty s = (s.from ≡ 0) × ((s.to ≡ 0) × (s.digits ≡ 0))

abbrev pub EmptyExp : DigitsExp → Type 0
EmptyExp x = (x.leading_zeros ≡ 0) × (Empty x.part1 × (Empty x.part2 × (x.trailing_zeros ≡ 0)))

-- What a type says of its span of a text, in equations: what `IsSpan` says
abbrev pub Held : List ℕ → Span → Type 0
Held text s = (trimmed (part text s.from s.to) ≡ part text s.from s.to) × (s.digits ≡ length (span_of text s))

-- two views, one after the other
pub record StandsPair (text : List ℕ) (p : Span × Span) (d : List ℕ) : Type 0 where
  pub one : IsSpan text p.0
  pub two : IsSpan text p.1
  pub same : span_of text p.0 ++ span_of text p.1 ≡ d

-- an answer for two spans whose digits are moved in a way
abbrev pub Moved : List ℕ → IntFrac → (List ℕ → List ℕ → List ℕ) → (List ℕ → List ℕ → List ℕ) → Span → Span → Type 0
Moved text x int frac a b = StandsDropped text x (int (span_of text a) (span_of text b)) (frac (span_of text a) (span_of text b))

-- How many digits a split at n takes of each: of the zeros in front, of either view, and of the zeros behind: as many as there are, or as are still wanted
abbrev pub cut_of : DigitsExp → ℕ → Counts
cut_of x n =
    record {
      front = min n x.leading_zeros;
      one = min (n - x.leading_zeros) x.part1.digits;
      two = min (n - x.leading_zeros - x.part1.digits) x.part2.digits;
      behind = min (n - x.leading_zeros - x.part1.digits - x.part2.digits) x.trailing_zeros;
    }
