-- From a format to a pattern: document 01, module 5, "To and from f32 and f64 patterns, carried as u32 and u64
-- integers: nearest, ties to even"; "0 gives the positive zero". The refusals are the format's alone. (What a pattern
-- stands for is said by `float`.) Assumes nothing.
use Rattle.std.specs.Prelude.{Bool, false, cond, ℕ, ◌+◌, ◌-◌, ◌*◌, ◌/◌, ◌^◌, ltb, ℤ, pos, nat_abs}
use Rattle.std.specs.Float.Ieee.{size}
use Rattle.std.specs.Int.Signed.{lt_z}
use Rattle.laws.specs.Nearest.{nearest_even}
use Rattle.format.specs.Meaning.{Outcome, done, fault_of, unless}
use Rattle.float.specs.Meaning.{Binary, bias, least, Value, infinite, finite}

-- ---- the number nearest to n / 2^F: that is n x 2^least / 2^F steps. The significand keeps the p leading
-- digits of that, so it is counted in `unit b n f` more places than the steps, or in steps where there are
-- no more than p digits; "nearest, ties to even"
abbrev pub unit : Binary → ℕ → ℕ → ℕ
unit b n f = size (n * 2 ^ least b / 2 ^ f) - b.precision

abbrev pub significand : Binary → ℕ → ℕ → ℕ
significand b n f = nearest_even (n * 2 ^ least b) (2 ^ f * 2 ^ unit b n f)

-- the nearest number, in steps, as if there were no largest one
unfoldable pub nearest_steps : Binary → ℕ → ℕ → ℕ
nearest_steps b n f = significand b n f * 2 ^ unit b n f

-- "rounds to infinity": what would be 2^(emax + 1) or more
unfoldable pub rounded_value : Binary → Bool → ℕ → ℕ → Value
rounded_value b neg n f =
    cond (ltb (nearest_steps b n f) (2 ^ (least b + bias b + 1))) (finite neg (nearest_steps b n f)) (infinite neg)

-- S, E and T as one number
abbrev pub joined : Binary → Bool → ℕ → ℕ → ℕ
joined b neg e t = cond neg (2 ^ (b.field + (b.precision - 1))) 0 + e * 2 ^ (b.precision - 1) + t

-- a significand c in a place k: below 2^(p-1) there is no leading one, so E = 0 (and k = 0); at 2^p rounding
-- has carried, and it is 2^(p-1) in the next place
unfoldable pub pattern_by : Binary → Bool → ℕ → ℕ → ℕ
pattern_by b neg c k =
    cond (ltb c (2 ^ (b.precision - 1)))
    (joined b neg 0 c)
    (cond (ltb c (2 ^ b.precision)) (joined b neg (k + 1) (c - 2 ^ (b.precision - 1))) (joined b neg (k + 2) 0))

-- the pattern of `rounded_value`
unfoldable pub pattern_of : Binary → Bool → ℕ → ℕ → ℕ
pattern_of b neg n f =
    cond (ltb (nearest_steps b n f) (2 ^ (least b + bias b + 1)))
    (pattern_by b neg (significand b n f) (unit b n f))
    (joined b neg (2 ^ b.field - 1) 0)

-- the pattern of the number nearest to a / 2^f, in the answer's value
abbrev pub to_float_of : Binary → ℕ → ℕ → ℤ → Outcome
to_float_of b w f a = unless (fault_of w f) (done (pos (pattern_of b (lt_z a (pos 0)) (nat_abs a) f)) false)
