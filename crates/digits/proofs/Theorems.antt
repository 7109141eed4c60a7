-- The bytes at the place of what comes after a split are its view. Assumes nothing.
use Rattle.std.specs.Prelude.{◌≡◌, ℕ, length, take, drop}
use mathlib.Core.List.{List, ◌++◌}
use Rattle.digits.specs.Meaning.{unds_front, head_of, tail_of, from_of}
use Rattle.digits.specs.Meaning.{from_part}
use Rattle.digits.specs.Theorems.{from-whole, part-stands}

pub from-stands : (t : List ℕ) (n : ℕ)
    → take (length (from_of t n)) (drop (length (head_of t n ++ unds_front (tail_of t n))) t) ≡ from_of t n
from-stands t n = part-stands t (from_part t n) (from-whole t n)
