-- Document 01's cases of the logarithm, and the ends of its ranges, computed from the meaning.
-- Assumes nothing.
use Rattle.std.specs.Prelude.{◌≡◌, refl, false, List, [], ◌∷◌, ℕ, zero, suc, ◌-◌, ◌^◌, pos, neg_ℤ, replicate}
use Rattle.format.specs.Meaning.{Outcome, done, refused, is_width, fault_of, guarded}
use Rattle.log10.specs.Meaning.{reaches, down_from, log10_of, positive_only, log10_outcome}

abbrev minus : ℕ → Outcome
minus n = done (neg_ℤ (pos n)) false

abbrev plus : ℕ → Outcome
plus n = done (pos n) false

-- the outcomes of n raws from x on, at W = F = 8
abbrev eights : ℕ → ℕ → List Outcome
eights x zero = []
eights x (suc n) = log10_outcome (pos x) 8 8 ∷ eights (suc x) n

pub record Cases : Type 0 where
  -- "log10, W = F = 8: raws 1 and 2 give -3, 3 to 25 give -2, 26 gives -1."
  pub raws-1-2 : eights 1 2 ≡ replicate 2 (minus 3)
  pub raws-3-25 : eights 3 23 ≡ replicate 23 (minus 2)
  pub raw-26 : log10_outcome (pos 26) 8 8 ≡ minus 1
  pub raws-26-255 : eights 26 230 ≡ replicate 230 (minus 1)
  -- "k runs from -1 down to -3, -5, -10, -20 for W = 8, 16, 32, 64": the ends
  pub low-16 : log10_outcome (pos 1) 16 16 ≡ minus 5
  pub low-32 : log10_outcome (pos 1) 32 32 ≡ minus 10
  pub low-64 : log10_outcome (pos 1) 64 64 ≡ minus 20
  pub high-16 : log10_outcome (pos (2 ^ 16 - 1)) 16 16 ≡ minus 1
  pub high-32 : log10_outcome (pos (2 ^ 32 - 1)) 32 32 ≡ minus 1
  pub high-64 : log10_outcome (pos (2 ^ 64 - 1)) 64 64 ≡ minus 1
  -- whole numbers
  pub one : log10_outcome (pos 1) 16 0 ≡ plus 0
  pub nine : log10_outcome (pos 9) 16 0 ≡ plus 0
  pub ten : log10_outcome (pos 10) 16 0 ≡ plus 1
  pub ninety-nine : log10_outcome (pos 99) 16 0 ≡ plus 1
  pub hundred : log10_outcome (pos 100) 16 0 ≡ plus 2
  pub highest : log10_outcome (pos (2 ^ 64 - 1)) 64 0 ≡ plus 19
  -- one, and the step below it, in I1F15's width
  pub at_one : log10_outcome (pos 32768) 16 15 ≡ plus 0
  pub under_one : log10_outcome (pos 32767) 16 15 ≡ minus 1
  -- an operand that the format could not hold is the number that it is
  pub wider : log10_outcome (pos 300) 8 8 ≡ plus 0
  -- "32: logarithm of zero or of a negative number", after 1 and 2
  pub of_zero : log10_outcome (pos 0) 8 8 ≡ refused 32
  pub of_negative : log10_outcome (neg_ℤ (pos 1)) 8 8 ≡ refused 32
  pub width-first : log10_outcome (pos 0) 7 8 ≡ refused 1
  pub frac-first : log10_outcome (pos 0) 8 9 ≡ refused 2

pub cases : Cases
unfolding reaches down_from log10_of positive_only log10_outcome is_width fault_of guarded
cases =
    record {
      raws-1-2 = refl;
      raws-3-25 = refl;
      raw-26 = refl;
      raws-26-255 = refl;
      low-16 = refl;
      low-32 = refl;
      low-64 = refl;
      high-16 = refl;
      high-32 = refl;
      high-64 = refl;
      one = refl;
      nine = refl;
      ten = refl;
      ninety-nine = refl;
      hundred = refl;
      highest = refl;
      at_one = refl;
      under_one = refl;
      wider = refl;
      of_zero = refl;
      of_negative = refl;
      width-first = refl;
      frac-first = refl;
    }
