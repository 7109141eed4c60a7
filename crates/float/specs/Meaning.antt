-- IEEE 754-2019, clause 3.4, "binary interchange format encodings", once over the precision p and the width w of the
-- exponent field: what a pattern stands for; and how many steps of a format that is. Assumes nothing.
use Rattle.std.specs.Prelude.{Bool, cond, ℕ, ◌+◌, ◌-◌, ◌*◌, ◌/◌, ◌%◌, ◌^◌, eqb, leb}
use Rattle.laws.specs.Nearest.{nearest_even}

-- ---- the formats: p bits of significand, the leading one counted, and w bits of exponent (Table 3.5)
pub record Binary : Type 0 where
  pub precision : ℕ
  pub field : ℕ

abbrev pub binary32 : Binary
binary32 = record { precision = 24; field = 8 }

abbrev pub binary64 : Binary
binary64 = record { precision = 53; field = 11 }

-- "bias" and "emax" are both 2^(w-1) - 1, and "emin" is 1 - emax
abbrev pub bias : Binary → ℕ
bias b = 2 ^ (b.field - 1) - 1

-- the least positive number is 2^(emin - (p-1)), which is 2^-least: every
-- finite number is a whole number of these steps
abbrev pub least : Binary → ℕ
least b = bias b + b.precision - 2

-- ---- a pattern: "1-bit sign S, w-bit biased exponent E, (p-1)-bit trailing significand field T", the sign highest
abbrev pub negative : Binary → ℕ → Bool
negative b x = leb (2 ^ (b.field + (b.precision - 1))) x

abbrev pub biased : Binary → ℕ → ℕ
biased b x = x / 2 ^ (b.precision - 1) % 2 ^ b.field

abbrev pub trailing : Binary → ℕ → ℕ
trailing b x = x % 2 ^ (b.precision - 1)

-- What a pattern stands for. A finite number is its sign and its magnitude in steps of 2^-least.
pub data Value : Type 0 where
  nan : Value
  infinite : Bool → Value
  finite : Bool → ℕ → Value

-- "E = 0": T x 2^(emin - (p-1)), a subnormal number or a zero; else (2^(p-1) + T) x 2^(E - bias -
-- (p-1)), where E - bias - (p-1) is E - 1 - least
abbrev pub steps : Binary → ℕ → ℕ → ℕ
steps b e t = cond (eqb e 0) t ((2 ^ (b.precision - 1) + t) * 2 ^ (e - 1))

-- "E = 2^w - 1 and T ≠ 0": NaN, whatever the sign. "E = 2^w - 1 and T = 0": an infinity
unfoldable pub of_fields : Binary → Bool → ℕ → ℕ → Value
of_fields b neg e t = cond (eqb e (2 ^ b.field - 1)) (cond (eqb t 0) (infinite neg) nan) (finite neg (steps b e t))

unfoldable pub pattern_value : Binary → ℕ → Value
pattern_value b x = of_fields b (negative b x) (biased b x) (trailing b x)

-- ---- in a format: the magnitude x 2^F, "nearest, ties to even"
unfoldable pub raw_of_steps : Binary → ℕ → ℕ → ℕ
raw_of_steps b f n = nearest_even (n * 2 ^ f) (2 ^ least b)
