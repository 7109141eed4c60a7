-- The sign of a number, and Euclidean remainder and quotient of two: the
-- documentation of src/wrapping.rs. Assumes nothing.
use Rattle.std.specs.Prelude.{ℕ, suc, min, ℤ, pos, negsuc, neg_ℤ, nat_abs, ◌-ℤ◌}
use Rattle.laws.specs.Floor.{floor}
use Rattle.units.specs.Meaning.{by_size, floor_to}

-- "Returns a number representing the sign of `self`": -1, 0 or 1, which is 2^F steps
abbrev pub sign_of : ℤ → ℤ
sign_of a = by_size (λ (n : ℕ). min n 1) a

-- "Remainder for Euclidean division": what is left of a above the greatest multiple of |b| that is not above a
abbrev pub rem_euclid : ℤ → ℤ → ℤ
rem_euclid a b = a -ℤ floor_to a (nat_abs b)

-- "Euclidean division": how many times b that is, a whole number
unfoldable pub quot_euclid : ℤ → ℤ → ℤ
quot_euclid a (pos b) = floor a b
quot_euclid a (negsuc b) = neg_ℤ (floor a (suc b))
