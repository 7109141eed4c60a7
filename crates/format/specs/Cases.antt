-- Document 01's cases as far as the manner alone decides them, computed from the meaning: a row is a manner, a format, a number of steps
-- that is already rounded, and what it gives. Assumes nothing.
use Rattle.std.specs.Prelude.{◌≡◌, refl, true, false, List, [], ◌∷◌, map, ℕ, ℤ, pos, neg_ℤ}
use Rattle.format.specs.declared.Manner.TheVariants.{Strict, Saturating, Wrapping, Overflowing}
use Rattle.format.specs.Meaning.{signed, unsigned, fault_of, lowest, highest, fits, hold}
use Rattle.format.specs.Meaning.{is_width}
use Rattle.format.specs.Meaning.{wrap, settle, with_sign, unless, Outcome, done, refused, guarded}

-- what comes out, with the flag clear: a raw, or one below 0
abbrev raw : ℕ → Outcome
raw n = done (pos n) false

abbrev minus : ℕ → Outcome
minus n = done (neg_ℤ (pos n)) false

-- a number of steps, and one below 0
abbrev steps : ℕ → ℤ
steps n = with_sign false n

abbrev below : ℕ → ℤ
below n = with_sign true n

-- A row: what the meaning computes, and what is written.
infix 80 ◌gives◌
data Case : Type 0 where
  ◌gives◌ : Outcome → Outcome → Case

got : Case → Outcome
unfolding is_width fault_of lowest highest fits hold wrap settle with_sign guarded
got (a gives b) = a

abbrev want : Case → Outcome
want (a gives b) = b

document : List Case
document =
    -- W 8 signed, F 4: `7.96875` rounds to 128, `-8.03125` to -128
    settle Strict signed 8 (steps 128) gives refused 10
    ∷ settle Strict signed 8 (below 128) gives minus 128
    -- W 8 signed, F 0: `127.5` rounds to 128
    ∷ settle Wrapping signed 8 (steps 128) gives minus 128
    ∷ settle Saturating signed 8 (steps 128) gives raw 127
    ∷ settle Overflowing signed 8 (steps 128) gives done (neg_ℤ (pos 128)) true
    -- W 8 unsigned, F 0: `-0.4` rounds to 0, `-0.6` to -1
    ∷ settle Strict unsigned 8 (below 0) gives raw 0
    ∷ settle Strict unsigned 8 (below 1) gives refused 10
    -- I1F15: `-1`, `1`, `0.99998`; `0.99999` rounds to 32768
    ∷ settle Strict signed 16 (below 32768) gives minus 32768
    ∷ settle Strict signed 16 (steps 32768) gives refused 10
    ∷ settle Strict signed 16 (steps 32767) gives raw 32767
    -- W 32 signed: maximum plus one step, wrapping, is the minimum
    ∷ settle Wrapping signed 32 (steps 2147483648) gives minus 2147483648
    -- far past full scale: the end of the number's own sign, whatever the wrapped number's sign
    ∷ settle Saturating signed 8 (steps 384) gives raw 127
    ∷ settle Saturating signed 8 (below 385) gives minus 128
    -- refusals of a format: 1 before 2
    ∷ unless (fault_of 7 9) (raw 0) gives refused 1
    ∷ unless (fault_of 8 9) (raw 0) gives refused 2
    ∷ unless (fault_of 8 8) (raw 0) gives raw 0
    ∷ []

document-right : map got document ≡ map want document
unfolding got document is_width fault_of lowest highest fits hold wrap settle with_sign guarded
document-right = refl
