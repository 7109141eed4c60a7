-- Whole numbers of units, one line a rounding, and the two parts of a number, for both signs: the documentation of
-- src/wrapping.rs. z is a number of steps, and a unit m of them, which of a format is 2^F. Assumes nothing.
use Rattle.std.specs.Prelude.{cond, ℕ, suc, ◌+◌, ◌*◌, ◌/◌, ◌%◌, ◌^◌, eqb, ltb, ℤ, pos, negsuc, neg_ℤ, ◌-ℤ◌, ◌*ℤ◌}
use Rattle.laws.specs.Floor.{floor}
use Rattle.laws.specs.Nearest.{nearest_even}

-- how many units of m steps z is, "towards −∞" (`floor`) and "towards +∞"
abbrev pub ceiling : ℤ → ℕ → ℤ
ceiling z m = neg_ℤ (floor (neg_ℤ z) m)

-- "to the nearest, with ties rounded away from zero": of a magnitude, a tie goes up
unfoldable pub nearest_away : ℕ → ℕ → ℕ
nearest_away n m = cond (ltb (n % m * 2) m) (n / m) (n / m + 1)

-- a rounding of the magnitude, with the sign applied
unfoldable pub by_size : (ℕ → ℕ) → ℤ → ℤ
by_size f (pos n) = pos (f n)
by_size f (negsuc n) = neg_ℤ (pos (f (suc n)))

-- "Rounds to the next integer towards −∞" and "towards +∞"
abbrev pub floor_to : ℤ → ℕ → ℤ
floor_to z m = floor z m *ℤ pos m

abbrev pub ceil_to : ℤ → ℕ → ℤ
ceil_to z m = ceiling z m *ℤ pos m

-- "to the nearest, with ties rounded away from zero", and "with ties rounded to even"
abbrev pub round_to : ℤ → ℕ → ℤ
round_to z m = by_size (λ (n : ℕ). nearest_away n m) z *ℤ pos m

abbrev pub even_to : ℤ → ℕ → ℤ
even_to z m = by_size (λ (n : ℕ). nearest_even n m) z *ℤ pos m

-- "rounded towards −∞, except in the case where there are no integer bits, .. where the return value is always zero"
unfoldable pub int_part : ℕ → ℕ → ℤ → ℤ
int_part w f a = cond (eqb f w) (pos 0) (floor_to a (2 ^ f))

-- "the returned fraction will be non-negative for negative numbers, except in the case where there are no integer bits,
-- .. where the return value is always equal to `self`"
abbrev pub frac_part : ℕ → ℕ → ℤ → ℤ
frac_part w f a = a -ℤ int_part w f a
