-- Whole numbers of a format, one line an operation, for both signs: the documentation of src/wrapping.rs. The format's
-- refusals, then the exact result in the manner. a is a raw, so a unit is 2^F steps. An operand is the number that it
-- is, also where the format could not hold it. Assumes nothing.
use Rattle.std.specs.Prelude.{ℕ, ◌^◌, ℤ}
use Rattle.format.specs.declared.Manner.{Manner}
use Rattle.format.specs.Meaning.{Sign, Outcome, fault_of, unless, settle}
use Rattle.units.specs.Meaning.{floor_to, ceil_to, round_to, even_to, int_part, frac_part}

abbrev pub floor_of : Manner → Sign → ℕ → ℕ → ℤ → Outcome
floor_of k s w f a = unless (fault_of w f) (settle k s w (floor_to a (2 ^ f)))

abbrev pub ceil_of : Manner → Sign → ℕ → ℕ → ℤ → Outcome
ceil_of k s w f a = unless (fault_of w f) (settle k s w (ceil_to a (2 ^ f)))

abbrev pub round_of : Manner → Sign → ℕ → ℕ → ℤ → Outcome
round_of k s w f a = unless (fault_of w f) (settle k s w (round_to a (2 ^ f)))

abbrev pub even_of : Manner → Sign → ℕ → ℕ → ℤ → Outcome
even_of k s w f a = unless (fault_of w f) (settle k s w (even_to a (2 ^ f)))

abbrev pub int_of : Manner → Sign → ℕ → ℕ → ℤ → Outcome
int_of k s w f a = unless (fault_of w f) (settle k s w (int_part w f a))

abbrev pub frac_of : Manner → Sign → ℕ → ℕ → ℤ → Outcome
frac_of k s w f a = unless (fault_of w f) (settle k s w (frac_part w f a))
