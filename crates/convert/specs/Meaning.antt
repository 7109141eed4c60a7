-- Document 01, module 5: "Format to format: extra fraction bits dropped, rounding toward minus infinity (D)."
-- One definition for the four pairs of signs. A raw is the number that it is, also where the format that it
-- comes from could not hold it. Assumes nothing.
use Rattle.std.specs.Prelude.{cond, ◌&&◌, ℕ, ◌^◌, leb, ℤ, pos, ◌*ℤ◌}
use Rattle.laws.specs.Floor.{floor}
use Rattle.format.specs.declared.Manner.{Manner}
use Rattle.format.specs.Meaning.{Sign, Outcome, is_width, unless, settle}

-- "1: W is not one of the four", of either format, before "2: F above W", of either; 0 for none. The first two
-- numbers are the format that the raw comes from
unfoldable pub formats_fault : ℕ → ℕ → ℕ → ℕ → ℕ
formats_fault fw ff w f = cond (is_width fw && is_width w) (cond (leb ff fw && leb f w) 0 2) 1

-- a / 2^ff is a * 2^f / 2^ff steps of 2^-f: rounded toward minus infinity
abbrev pub steps_of : ℕ → ℕ → ℤ → ℤ
steps_of ff f a = floor (a *ℤ pos (2 ^ f)) (2 ^ ff)

-- the refusals, then the steps in the manner
abbrev pub convert_of : Manner → Sign → ℕ → ℕ → ℕ → ℕ → ℤ → Outcome
convert_of k s fw ff w f a = unless (formats_fault fw ff w f) (settle k s w (steps_of ff f a))
