-- More arithmetic on raws, one line an operation, for both signs: the documentation of src/wrapping.rs. The
-- refusals, then the exact result in the manner. A step is 2^-F. An operand is the number that it is, also where
-- the format could not hold it. Assumes nothing.
use Rattle.std.specs.Prelude.{ℕ, ◌^◌, ℤ, pos, nat_abs, ◌+ℤ◌, ◌-ℤ◌, ◌*ℤ◌}
use Rattle.laws.specs.Floor.{floor}
use Rattle.format.specs.declared.Manner.{Manner}
use Rattle.format.specs.Meaning.{Sign, Outcome, fault_of, unless, settle}
use Rattle.exact.specs.Meaning.{or_else}
use Rattle.arith.specs.Meaning.{divisor_fault}
use Rattle.results.specs.Meaning.{sign_of, rem_euclid, quot_euclid}

-- "Returns the absolute value"
abbrev pub abs_of : Manner → Sign → ℕ → ℕ → ℤ → Outcome
abs_of k s w f a = unless (fault_of w f) (settle k s w (pos (nat_abs a)))

-- the sign (`sign_of`), in units
abbrev pub signum_of : Manner → Sign → ℕ → ℕ → ℤ → Outcome
signum_of k s w f a = unless (fault_of w f) (settle k s w (sign_of a *ℤ pos (2 ^ f)))

-- what is left of a (`rem_euclid`), and how many times b goes into it (`quot_euclid`), in units
abbrev pub rem_euclid_of : Manner → Sign → ℕ → ℕ → ℤ → ℤ → Outcome
rem_euclid_of k s w f a b = unless (or_else (fault_of w f) (divisor_fault b)) (settle k s w (rem_euclid a b))

abbrev pub div_euclid_of : Manner → Sign → ℕ → ℕ → ℤ → ℤ → Outcome
div_euclid_of k s w f a b = unless (or_else (fault_of w f) (divisor_fault b)) (settle k s w (quot_euclid a b *ℤ pos (2 ^ f)))

-- "Returns `self` × `mul` + `add`", the product rounded as the product is
abbrev pub mul_add_of : Manner → Sign → ℕ → ℕ → ℤ → ℤ → ℤ → Outcome
mul_add_of k s w f a b c = unless (fault_of w f) (settle k s w (floor (a *ℤ b) (2 ^ f) +ℤ c))

-- "Returns the distance from `self` to `other`"
abbrev pub dist_of : Manner → Sign → ℕ → ℕ → ℤ → ℤ → Outcome
dist_of k s w f a b = unless (fault_of w f) (settle k s w (pos (nat_abs (a -ℤ b))))

-- "Returns the mean of `self` and `other`": rounded toward minus infinity, which the documentation leaves open
abbrev pub mean_of : Manner → Sign → ℕ → ℕ → ℤ → ℤ → Outcome
mean_of k s w f a b = unless (fault_of w f) (settle k s w (floor (a +ℤ b) 2))
