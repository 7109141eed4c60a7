-- From a pattern to a format: document 01, module 5, "To and from f32 and f64 patterns, carried as u32 and u64
-- integers: nearest, ties to even". (What a pattern stands for is said by `float`.) Assumes nothing.
use Rattle.std.specs.Prelude.{Bool, false, cond, ℕ}
use Rattle.format.specs.declared.Manner.{Manner}
use Rattle.format.specs.declared.Manner.TheVariants.{Strict, Saturating, Wrapping, Overflowing}
use Rattle.format.specs.Meaning.{Sign, lowest, highest, Outcome, done, refused, fault_of, unless, settle, with_sign}
use Rattle.float.specs.Meaning.{Binary, Value, nan, infinite, finite, pattern_value, raw_of_steps}

-- "30: NaN, or an infinity outside the saturating manner"; "Saturating takes an infinity to the end of its sign"
unfoldable pub infinity : Manner → Sign → ℕ → Bool → Outcome
infinity Strict s w neg = refused 30
infinity Saturating s w neg = done (cond neg (lowest s w) (highest s w)) false
infinity Wrapping s w neg = refused 30
infinity Overflowing s w neg = refused 30

-- the magnitude rounded, then the sign, then the manner
unfoldable pub of_value : Binary → Manner → Sign → ℕ → ℕ → Value → Outcome
of_value b k s w f nan = refused 30
of_value b k s w f (infinite neg) = infinity k s w neg
of_value b k s w f (finite neg n) = settle k s w (with_sign neg (raw_of_steps b f n))

abbrev pub from_float_of : Binary → Manner → Sign → ℕ → ℕ → ℕ → Outcome
from_float_of b k s w f x = unless (fault_of w f) (of_value b k s w f (pattern_value b x))
