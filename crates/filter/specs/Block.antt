-- A block as the loop has it: what the line, the lent buffers and the count are once i samples are through, and the laws of the start,
-- of one sample more and of the end. Assumes nothing.
use Rattle.std.specs.Prelude.{◌≡◌, refl, List, [], ◌∷◌, ◌++◌, map, ℕ, ◌+◌, ◌≤◌, ◌<◌, ℤ, pos, length, take, get_or, set}
use Rattle.std.proofs.lemmas.List.{map-append}
use Rattle.std.proofs.Common.{add-one, arith, length-set, take-suc, take-suc-set, take_all}
use Rattle.filter.specs.Meaning.{next, output_of, clip_of, bit_of, history_after, outputs_of, clips_of, clipped}
use Rattle.filter.specs.Run.{after_one, outputs-one, clips-one, clipped-one, bit_le}

-- the block is through
pub record Through (taps history samples final outputs : List ℤ) (marks : List ℕ) (count : ℕ) : Type 0 where
  pub final-is : final ≡ history_after history samples
  pub outputs-are : outputs ≡ outputs_of taps history samples
  pub marks-are : marks ≡ map bit_of (clips_of taps history samples)
  pub count-is : count ≡ clipped (clips_of taps history samples)

-- the first i samples are through
pub record SoFar (taps history samples : List ℤ) (i : ℕ) (line outputs : List ℤ) (marks : List ℕ) (count : ℕ) : Type 0 where
  pub place : i ≤ length samples
  pub outputs-long : length outputs ≡ length samples
  pub marks-long : length marks ≡ length samples
  pub few : count ≤ i
  pub through : Through taps history (take i samples) line (take i outputs) (take i marks) count

pub start : (taps history samples outputs : List ℤ) (marks : List ℕ) → length outputs ≡ length samples → length marks ≡ length samples
    → SoFar taps history samples 0 history outputs marks 0
unfolding history_after outputs_of clips_of clipped
start taps history samples outputs marks f g =
    record {
      place = omega arith;
      outputs-long = f;
      marks-long = g;
      few = omega arith;
      through = record { final-is = refl; outputs-are = refl; marks-are = refl; count-is = refl };
    }

module _ (taps history samples : List ℤ) (i : ℕ) (line outputs : List ℤ) (marks : List ℕ) (count : ℕ)
    (s : SoFar taps history samples i line outputs marks count) where
  pub more : (line' : List ℤ) (y : ℤ) (b : ℕ) → i < length samples → line' ≡ next line (get_or samples i (pos 0)) → y ≡ output_of taps line'
      → b ≡ bit_of (clip_of taps line')
      → SoFar taps history samples (i + 1) line' (set outputs i y) (set marks i b) (count + b)
  more line' y b h l o f =
      let t = s.through in
      let past = take i samples in
      let x = get_or samples i (pos 0) in
      let whole : take (i + 1) samples ≡ past ++ x ∷ [] = rw add-one (take-suc samples i (pos 0) h) in
      let now : line' ≡ next (history_after history past) x = rw t.final-is at l in
      record {
        place = omega arith;
        outputs-long = simp length-set s.outputs-long;
        marks-long = simp length-set s.marks-long;
        few = omega (arith, bit_le (clip_of taps line'));
        through =
            record {
              final-is = rw (whole, after_one) now;
              outputs-are = rw (whole, outputs-one, ← now, add-one, take-suc-set outputs i y (omega arith), t.outputs-are, o);
              marks-are = rw (whole, clips-one, ← now, map-append, add-one, take-suc-set marks i b (omega arith), t.marks-are, f);
              count-is = rw (whole, clips-one, ← now, clipped-one, t.count-is, f);
            };
      }

  pub end : length samples ≤ i → Through taps history samples line outputs marks count
  end h =
      let all-samples = take_all i samples h in
      let all-outputs = take_all i outputs (omega (arith, s.outputs-long)) in
      let all-marks = take_all i marks (omega (arith, s.marks-long)) in
      rw (all-samples, all-outputs, all-marks) at s.through
