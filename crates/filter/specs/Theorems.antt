-- What is proved of the filter: of one output, of its exact sum, and of a run. Assumes nothing.
use Rattle.std.specs.Prelude.{◌≡◌, refl, ◌↔◌, Bool, true, false, List, [], ◌∷◌, ◌++◌, reverse, ℕ, ◌*◌, ◌^◌, ◌≤◌, ℤ, pos, nat_abs, ◌-ℤ◌, ◌*ℤ◌, length, take}
use Rattle.std.proofs.Common.{sym, ◌∙◌}
use Rattle.std.proofs.lemmas.Bool.{false≢true}
use Rattle.format.specs.Meaning.{signed_kind, value_in, flag_in, guarded}
use Rattle.filter.specs.declared.Stepped.{Stepped}
use Rattle.filter.specs.Meaning.{most_taps, history, next, sum_of, held, clips, output_of, clip_of}
use Rattle.filter.specs.Meaning.{history_after, outputs_of, clips_of, Run, run_of, taps_fault, done_with, stepped, step_of}
use Rattle.filter.specs.Range.{Sample, sample-keeps, unclipped, held-sample}
use Rattle.filter.specs.Run.{after-append, outputs-append, clips-append, after_is}

-- ---- One output.
-- "the clip flag is set exactly if holding changed it"
pub clips-changed : (y : ℤ) → (clips y ≡ true) ↔ (held y ≡ y → ⊥)
clips-changed y = (changed, λ n. unchanged (clips y) refl n)
  where
    changed : clips y ≡ true → held y ≡ y → ⊥
    changed c e =
        let r : Sample y = rw e at (held-sample y) in
        false≢true (sym (sample-keeps y r).0 ∙ c)

    unchanged : (t : Bool) → clips y ≡ t → (held y ≡ y → ⊥) → t ≡ true
    unchanged true c n = refl
    unchanged false c n = absurd (n (sample-keeps y (unclipped y c)).1)

module _ (taps h : List ℤ) where
  -- how far P is from that many steps
  abbrev pub off : ℤ → ℕ
  off y = nat_abs (sum_of taps h -ℤ y *ℤ pos (2 ^ 15))

pub sum-margin : most_taps * 2 ^ 30 * 2 ^ 27 ≡ 2 ^ 63
sum-margin = refl

-- ---- A run is the steps in turn, and may be cut anywhere.
-- what a step gives, in front of what the rest gives
abbrev pub front : Stepped → Run → Run
front s r = record { outputs = value_in signed_kind s.answer ∷ r.outputs; flags = flag_in s.answer ∷ r.flags; final = r.final }

unfoldable pub in_turn : List ℤ → List ℤ → List ℤ → Run
in_turn taps h [] = record { outputs = []; flags = []; final = h }
in_turn taps h (x ∷ xs) = front (step_of taps h x) (in_turn taps (history (step_of taps h x).state) xs)

step_is : (taps h : List ℤ) (x : ℤ) → taps_fault (length taps) ≡ 0
    → step_of taps h x ≡ stepped (done_with (output_of taps (next h x)) (clip_of taps (next h x))) (next h x)
unfolding step_of guarded
step_is taps h x f = rw f

pub run-in-turn : (taps h xs : List ℤ) → taps_fault (length taps) ≡ 0 → run_of taps h xs ≡ in_turn taps h xs
unfolding run_of outputs_of clips_of history_after in_turn value_in flag_in
run-in-turn taps h [] f = refl
run-in-turn taps h (x ∷ xs) f = rw (step_is taps h x f, ← run-in-turn taps (next h x) xs f)

-- two runs, one after the other
abbrev pub then : Run → Run → Run
then r s = record { outputs = r.outputs ++ s.outputs; flags = r.flags ++ s.flags; final = s.final }

pub run-cut : (taps h xs ys : List ℤ) → run_of taps h (xs ++ ys) ≡ then (run_of taps h xs) (run_of taps (run_of taps h xs).final ys)
unfolding run_of
run-cut taps h xs ys = rw (outputs-append, clips-append, after-append)

-- the history after a block: the new samples, newest first, before the old ones, and of these the last 64
pub final-history : (taps h xs : List ℤ) → length h ≤ most_taps → (run_of taps h xs).final ≡ take most_taps (reverse xs ++ h)
unfolding run_of
final-history taps h xs e = after_is h xs e
