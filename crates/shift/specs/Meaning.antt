-- Document 01, module 4, the shifts, for both signs: the refusals, then the raw shifted and wrapped. a is a raw, also
-- one that the format could not hold. Assumes nothing.
use Rattle.std.specs.Prelude.{Bool, false, cond, not, ℕ, ◌^◌, ◌%◌, ltb, ℤ, pos, ◌*ℤ◌}
use Rattle.laws.specs.Floor.{floor}
use Rattle.format.specs.declared.Manner.{Manner}
use Rattle.format.specs.declared.Manner.TheVariants.{Strict, Saturating, Wrapping, Overflowing}
use Rattle.format.specs.Meaning.{Sign, Outcome, done, fault_of, unless, wrap}
use Rattle.exact.specs.Meaning.{or_else}

-- "the count is taken modulo W, the flag is set exactly if it was not in 0 to W-1, strict then gives 10, and there is
-- no saturating shift": asked for in the saturating manner, a shift is strict
unfoldable pub past_fault : Manner → ℕ
past_fault Strict = 10
past_fault Saturating = 10
past_fault Wrapping = 0
past_fault Overflowing = 0

unfoldable pub count_fault : Manner → ℕ → ℕ → ℕ
count_fault k w n = cond (ltb n w) 0 (past_fault k)

unfoldable pub count_flag : Manner → ℕ → ℕ → Bool
count_flag Strict w n = false
count_flag Saturating w n = false
count_flag Wrapping w n = false
count_flag Overflowing w n = not (ltb n w)

-- "Shifts act on the raw, right shifts of signed raws keep the sign"
abbrev pub shl_of : Manner → Sign → ℕ → ℕ → ℤ → ℕ → Outcome
shl_of k s w f a n =
    unless (or_else (fault_of w f) (count_fault k w n)) (done (wrap s w (a *ℤ pos (2 ^ (n % w)))) (count_flag k w n))

abbrev pub shr_of : Manner → Sign → ℕ → ℕ → ℤ → ℕ → Outcome
shr_of k s w f a n =
    unless (or_else (fault_of w f) (count_fault k w n)) (done (wrap s w (floor a (2 ^ (n % w)))) (count_flag k w n))
