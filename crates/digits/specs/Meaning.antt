-- What a digit view is: document 01, module 1. A run is the list of the bytes between two places of the text.
-- (The second layer is the crate `digits_exp`.) Assumes nothing.
use Rattle.std.specs.Prelude.{◌≡◌, Bool, false, cond, List, [], ◌∷◌, ◌++◌, reverse, ℕ, ◌+◌, ◌-◌, length, take, drop}
use Rattle.std.specs.Prelude.{eqb, Option, Some, None}
use Rattle.std.specs.Borrow.{Bor}

-- `_`
unfoldable pub is_und : ℕ → Bool
is_und b = eqb b 95

-- `0`
unfoldable pub is_zero : ℕ → Bool
is_zero b = eqb b 48

-- "A run of digits in the caller's text with single or repeated `_` between them": the digits it stands for are its
-- other bytes, in order.
unfoldable pub digits_of : List ℕ → List ℕ
digits_of [] = []
digits_of (b ∷ t) = cond (is_und b) (digits_of t) (b ∷ digits_of t)

-- the bytes in front that a rule holds of, and what is left without them
unfoldable pub take_while : (ℕ → Bool) → List ℕ → List ℕ
take_while p [] = []
take_while p (b ∷ t) = cond (p b) (b ∷ take_while p t) []

unfoldable pub drop_while : (ℕ → Bool) → List ℕ → List ℕ
drop_while p [] = []
drop_while p (b ∷ t) = cond (p b) (drop_while p t) (b ∷ t)

-- the same from behind
unfoldable pub take_back : (ℕ → Bool) → List ℕ → List ℕ
take_back p t = reverse (take_while p (reverse t))

unfoldable pub drop_back : (ℕ → Bool) → List ℕ → List ℕ
drop_back p t = reverse (drop_while p (reverse t))

-- "The view has no `_` at either end": the view of a run is the run without those.
unfoldable pub trimmed : List ℕ → List ℕ
trimmed t = drop_back is_und (drop_while is_und t)

-- what is dropped in front of the view and behind it
unfoldable pub unds_front : List ℕ → List ℕ
unds_front t = take_while is_und t

unfoldable pub unds_back : List ℕ → List ℕ
unds_back t = take_back is_und (drop_while is_und t)

-- a list does not start with what a rule holds of; a view has no `_` at either end
unfoldable pub StartsWithNo : (ℕ → Bool) → List ℕ → Type 0
StartsWithNo p [] = Unit {0}
StartsWithNo p (b ∷ t) = p b ≡ false

pub record IsView (t : List ℕ) : Type 0 where
  pub front : StartsWithNo is_und t
  pub back : StartsWithNo is_und (reverse t)

-- "Splitting at a digit count": the run up to its n-th digit, and what comes after; all and nothing where there are
-- fewer.
unfoldable pub head_of : List ℕ → ℕ → List ℕ
head_of [] n = []
head_of (b ∷ t) n = cond (eqb n 0) [] (b ∷ head_of t (cond (is_und b) n (n - 1)))

unfoldable pub tail_of : List ℕ → ℕ → List ℕ
tail_of [] n = []
tail_of (b ∷ t) n = cond (eqb n 0) (b ∷ t) (tail_of t (cond (is_und b) n (n - 1)))

-- "skip the `_` between": each part is a view
unfoldable pub upto_of : List ℕ → ℕ → List ℕ
upto_of t n = trimmed (head_of t n)

unfoldable pub from_of : List ℕ → ℕ → List ℕ
from_of t n = trimmed (tail_of t n)

-- A part of a run: the bytes that stand before it, its own, and those that stand behind it.
pub record Part : Type 0 where
  pub before : List ℕ
  pub view : List ℕ
  pub behind : List ℕ

-- the run that it is a part of
abbrev pub whole_run : Part → List ℕ
whole_run p = p.before ++ (p.view ++ p.behind)

-- the first n bytes of a run, and those after them
abbrev pub head_part : List ℕ → ℕ → Part
head_part run n = record { before = []; view = take n run; behind = drop n run }

abbrev pub rest_part : List ℕ → ℕ → Part
rest_part run n = record { before = take n run; view = drop n run; behind = [] }

-- the view of a run, and those of the two parts at a digit count
abbrev pub new_part : List ℕ → Part
new_part run = record { before = unds_front run; view = trimmed run; behind = unds_back run }

abbrev pub upto_part : List ℕ → ℕ → Part
upto_part run mid =
    record {
      before = unds_front (head_of run mid);
      view = upto_of run mid;
      behind = unds_back (head_of run mid) ++ tail_of run mid;
    }

abbrev pub from_part : List ℕ → ℕ → Part
from_part run mid =
    record {
      before = head_of run mid ++ unds_front (tail_of run mid);
      view = from_of run mid;
      behind = unds_back (tail_of run mid);
    }

-- A slice, as the logic has it: `ptr`, where it stands (a block of memory and an offset in it), and `now`, its bytes.
abbrev pub Slice : Type 0
Slice = Bor (List ℕ)

-- the place n bytes after another
abbrev pub after : ℕ → ℕ × ℕ → ℕ × ℕ
after n p = (p.0, n + p.1)

-- The slice r is the part p of the lent run: it has the bytes of p, and stands as far behind the run's start as there
-- are bytes before p.
pub record PartAt (run : Slice) (p : Part) (r : Slice) : Type 0 where
  pub bytes : r.now ≡ p.view
  pub place : r.ref_ptr ≡ after (length p.before) run.ref_ptr

-- "first and last digit"
unfoldable pub first_of : List ℕ → Option ℕ
first_of [] = None
first_of (b ∷ t) = Some b

unfoldable pub last_of : List ℕ → Option ℕ
last_of t = first_of (reverse t)

-- how many of the digits in front, or behind, are `0`
unfoldable pub leading_zeros : List ℕ → ℕ
leading_zeros d = length (take_while is_zero d)

unfoldable pub trailing_zeros : List ℕ → ℕ
trailing_zeros d = length (take_while is_zero (reverse d))
