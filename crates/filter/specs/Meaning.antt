-- The filter over lists of integers: document 01, module 7. A history is a list of samples, newest first.
-- Assumes nothing.
use Rattle.std.specs.Prelude.{Ok, Err, Bool, true, false, cond, not, List, [], ◌∷◌, map, ℕ, ◌+◌, ◌^◌, leb, eqb, ℤ, pos}
use Rattle.std.specs.Prelude.{nat_abs, ◌+ℤ◌, ◌*ℤ◌, length, take, replicate}
use Rattle.std.specs.Int.Signed.{lt_z}
use Rattle.laws.specs.Nearest.{nearest_even}
use Rattle.format.specs.Meaning.{signed, fits, hold, Answered, named, guarded, with_sign}
use Rattle.filter.specs.declared.State.{State}
use Rattle.filter.specs.declared.Stepped.{Stepped}

-- "The state holds the last 64 samples"; "40: taps not 1 to 64"
abbrev pub most_taps : ℕ
most_taps = 64

-- the samples of a state, newest first; and the state of a list of samples
abbrev pub history : State → List ℤ
history state = state.samples

abbrev pub state_of : List ℤ → State
state_of samples = record { samples = samples }

-- "at the start all 0"
abbrev pub silence : List ℤ
silence = replicate most_taps (pos 0)

-- "The state then holds the new sample as newest."
unfoldable pub next : List ℤ → ℤ → List ℤ
next history x = take most_taps (x ∷ history)

-- "Let P be the sum of tap(i) x sample(now - i) for i from 0 to n-1, kept exactly." Where one
-- list is the longer, its rest counts for nothing.
unfoldable pub sum_of : List ℤ → List ℤ → ℤ
sum_of [] history = pos 0
sum_of (tap ∷ taps) [] = pos 0
sum_of (tap ∷ taps) (sample ∷ history) = tap *ℤ sample +ℤ sum_of taps history

-- "The output is P / 2^15 rounded to nearest, ties to even, once," (Theorems: `output-near`, `output-tie`)
unfoldable pub rounded : ℤ → ℤ
rounded p = with_sign (lt_z p (pos 0)) (nearest_even (nat_abs p) (2 ^ 15))

-- "then held to -32768..32767;"
unfoldable pub held : ℤ → ℤ
held y = hold signed 16 y

-- "the clip flag is set exactly if holding changed it." (Theorems: `clips-changed`)
unfoldable pub clips : ℤ → Bool
clips y = not (fits signed 16 y)

-- the output before it is held, the output, and its clip flag
unfoldable pub level_of : List ℤ → List ℤ → ℤ
level_of taps history = rounded (sum_of taps history)

unfoldable pub output_of : List ℤ → List ℤ → ℤ
output_of taps history = held (level_of taps history)

unfoldable pub clip_of : List ℤ → List ℤ → Bool
clip_of taps history = clips (level_of taps history)

-- A block of samples, oldest first: the history after it; an output and a clip flag for each.
unfoldable pub history_after : List ℤ → List ℤ → List ℤ
history_after history [] = history
history_after history (x ∷ xs) = history_after (next history x) xs

unfoldable pub outputs_of : List ℤ → List ℤ → List ℤ → List ℤ
outputs_of taps history [] = []
outputs_of taps history (x ∷ xs) = output_of taps (next history x) ∷ outputs_of taps (next history x) xs

unfoldable pub clips_of : List ℤ → List ℤ → List ℤ → List Bool
clips_of taps history [] = []
clips_of taps history (x ∷ xs) = clip_of taps (next history x) ∷ clips_of taps (next history x) xs

pub record Run : Type 0 where
  pub outputs : List ℤ
  pub flags : List Bool
  pub final : List ℤ

unfoldable pub run_of : List ℤ → List ℤ → List ℤ → Run
run_of taps history samples =
    record {
      outputs = outputs_of taps history samples;
      flags = clips_of taps history samples;
      final = history_after history samples;
    }

-- a clip flag as a byte, and the number of outputs that clipped
unfoldable pub bit_of : Bool → ℕ
bit_of false = 0
bit_of true = 1

unfoldable pub clipped : List Bool → ℕ
clipped [] = 0
clipped (b ∷ flags) = bit_of b + clipped flags

-- What is refused: "lists of unequal length" is 5, before "taps not 1 to 64", 40; 0 where nothing is.
unfoldable pub taps_fault : ℕ → ℕ
taps_fault n = cond (eqb n 0) 40 (cond (leb n most_taps) 0 40)

unfoldable pub block_fault : ℕ → ℕ → ℕ → ℕ → ℕ
block_fault n samples outputs clips = cond (eqb samples outputs) (cond (eqb samples clips) (taps_fault n) 5) 5

-- an answer that is no refusal
abbrev pub done_with : {A : Type 0} → A → Bool → Answered A
done_with raw flag = Ok (record { raw = raw; flag = flag })

-- What a call leaves. A step: the output with its clip flag; the state holds the new sample.
abbrev pub stepped : Answered ℤ → List ℤ → Stepped
stepped answer samples = record { answer = answer; state = state_of samples }

unfoldable pub step_of : List ℤ → List ℤ → ℤ → Stepped
step_of taps before x =
    guarded (taps_fault (length taps))
    (λ n. stepped (Err (named n)) before)
    (stepped (done_with (output_of taps (next before x)) (clip_of taps (next before x))) (next before x))

-- A run: how many outputs clipped; the state, the outputs and their clip bytes.
pub record Ran : Type 0 where
  pub answer : Answered ℕ
  pub state : State
  pub outputs : List ℤ
  pub marks : List ℕ

abbrev pub ran : Answered ℕ → State → List ℤ → List ℕ → Ran
ran answer state outputs marks = record { answer = answer; state = state; outputs = outputs; marks = marks }

abbrev pub ran_done : Run → Ran
ran_done r = ran (done_with (clipped r.flags) false) (state_of r.final) r.outputs (map bit_of r.flags)

unfoldable pub ran_of : List ℤ → State → List ℤ → List ℤ → List ℕ → Ran
ran_of taps state samples outputs marks =
    guarded (block_fault (length taps) (length samples) (length outputs) (length marks))
    (λ n. ran (Err (named n)) state outputs marks)
    (ran_done (run_of taps (history state) samples))
