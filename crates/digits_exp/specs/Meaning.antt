-- What the second layer stands for: document 01, module 1. "A second layer is: some leading zeros, two
-- views, some trailing zeros." Assumes nothing.
use Rattle.std.specs.Prelude.{◌≡◌, List, [], ◌∷◌, ◌++◌, ℕ, suc, length, take, drop, ℤ, pos, negsuc, Option, Some, None}
use Rattle.laws.specs.Lists.{part}
use Rattle.laws.specs.Text.{zeros}
use Rattle.digits_exp.specs.declared.Span.{Span}
use Rattle.digits_exp.specs.declared.DigitsExp.{DigitsExp}
use Rattle.digits_exp.specs.declared.IntFrac.{IntFrac}
use Rattle.digits.specs.Meaning.{is_zero, digits_of, drop_while, drop_back, IsView}

-- the digits at a span of the text
unfoldable pub span_of : List ℕ → Span → List ℕ
span_of text s = digits_of (part text s.from s.to)

-- a span is a view, with its digit count; and it stands for the digits d
pub record IsSpan (text : List ℕ) (s : Span) : Type 0 where
  pub view : IsView (part text s.from s.to)
  pub count : s.digits ≡ length (span_of text s)

pub record Stands (text : List ℕ) (s : Span) (d : List ℕ) : Type 0 where
  pub is : IsSpan text s
  pub same : span_of text s ≡ d

-- the digits of the whole
unfoldable pub digits_exp_of : List ℕ → DigitsExp → List ℕ
digits_exp_of text x =
    zeros x.leading_zeros ++ (span_of text x.part1 ++ (span_of text x.part2 ++ zeros x.trailing_zeros))

pub record IsExp (text : List ℕ) (x : DigitsExp) : Type 0 where
  pub one : IsSpan text x.part1
  pub two : IsSpan text x.part2

pub record StandsExp (text : List ℕ) (x : DigitsExp) (d : List ℕ) : Type 0 where
  pub is : IsExp text x
  pub same : digits_exp_of text x ≡ d

-- "A decimal exponent moves digits between integer and fraction." Of the digits i and f, n places to the right: the
-- fraction, with n zeros behind, gives its first n digits to the integer. n places to the left: the integer, with n
-- zeros in front, gives its last n digits to the fraction.
unfoldable pub right_int : ℕ → List ℕ → List ℕ → List ℕ
right_int n i f = i ++ take n (f ++ zeros n)

unfoldable pub right_frac : ℕ → List ℕ → List ℕ → List ℕ
right_frac n i f = drop n (f ++ zeros n)

unfoldable pub left_int : ℕ → List ℕ → List ℕ → List ℕ
left_int n i f = take (length i) (zeros n ++ i)

unfoldable pub left_frac : ℕ → List ℕ → List ℕ → List ℕ
left_frac n i f = drop (length i) (zeros n ++ i) ++ f

unfoldable pub moved_int : ℤ → List ℕ → List ℕ → List ℕ
moved_int (pos n) i f = right_int n i f
moved_int (negsuc m) i f = left_int (suc m) i f

unfoldable pub moved_frac : ℤ → List ℕ → List ℕ → List ℕ
moved_frac (pos n) i f = right_frac n i f
moved_frac (negsuc m) i f = left_frac (suc m) i f

-- "Then leading zeros of the integer and trailing zeros of the fraction are dropped."
-- An answer stands for the digits i and f, then.
pub record StandsDropped (text : List ℕ) (x : IntFrac) (i f : List ℕ) : Type 0 where
  pub int : StandsExp text x.int (drop_while is_zero i)
  pub frac : StandsExp text x.frac (drop_back is_zero f)

-- "first .. digit": what the first digit and the others stand for, and that the others are such a whole again
unfoldable pub first_digits : List ℕ → Option (ℕ × DigitsExp) → List ℕ
first_digits text None = []
first_digits text (Some p) = p.0 ∷ digits_exp_of text p.1

unfoldable pub RestIs : List ℕ → Option (ℕ × DigitsExp) → Type 0
RestIs text None = Unit {0}
RestIs text (Some p) = IsExp text p.1
