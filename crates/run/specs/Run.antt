-- The run of digits at a place of a text, and the loop that finds its end. Assumes nothing.
use Rattle.std.specs.Prelude.{◌≡◌, refl, Bool, true, false, cond, List, [], ◌∷◌, ℕ, suc, ◌+◌, ◌≤◌, ◌<◌, drop, get_or}
use Rattle.std.proofs.Common.{sym, ap, ◌∙◌, add-one, drop_of_length-le}
use native.Mathlib.Omega.{arith}
use Rattle.std.proofs.Math.ListN.{length}
use Rattle.std.proofs.Math.Seq.{drop-cons}
use Rattle.digits.specs.Meaning.{digits_of}
use Rattle.grammar.specs.Automaton.{is_digit}
use Rattle.laws.specs.Lists.{part}
use Rattle.grammar.specs.Run.{in_run, run_more, run_len}
use Rattle.run.specs.declared.Run.{Run}

-- from its first digit on, if one stands there, with the number of its digits
unfoldable pub run_at : List ℕ → ℕ → ℕ → Bool → Run
run_at t from radix skip =
    record {
      from = from;
      to = from + run_len skip radix (drop from t);
      digits = length (digits_of (part t from (from + run_len skip radix (drop from t))));
    }

-- ---- the loop over a run
more-none : (skip : Bool) (radix : ℕ) → run_more skip radix [] ≡ 0
unfolding run_more
more-none skip radix = refl

-- a run is no longer than what there is
pub more-fits : (skip : Bool) (radix : ℕ) (t : List ℕ) → run_more skip radix t ≤ length t
unfolding run_more
more-fits skip radix [] = omega arith
more-fits skip radix (b ∷ t) = go (in_run skip radix b) (more-fits skip radix t)
  where
    go : (g : Bool) → run_more skip radix t ≤ length t → cond g (suc (run_more skip radix t)) 0 ≤ length (b ∷ t)
    go true h = omega arith
    go false h = omega arith

module _ (skip : Bool) (radix : ℕ) (t : List ℕ) (i : ℕ) where
  more_yes : i < length t → in_run skip radix (get_or t i 0) ≡ true → run_more skip radix (drop i t) ≡ suc (run_more skip radix (drop (i + 1) t))
  unfolding run_more
  more_yes h e = rw (add-one, drop-cons t i 0 h, e)

  more_no : i < length t → in_run skip radix (get_or t i 0) ≡ false → run_more skip radix (drop i t) ≡ 0
  unfolding run_more
  more_no h e = rw (drop-cons t i 0 h, e)

  pub run-next : {w : ℕ} {g : Bool} → i < length t → g ≡ in_run skip radix (get_or t i 0) → g ≡ true → i + run_more skip radix (drop i t) ≡ w
      → i + 1 + run_more skip radix (drop (i + 1) t) ≡ w
  run-next h e g inv = omega (arith, more_yes h (sym e ∙ g))

  pub run-stop : {w : ℕ} {g : Bool} → i < length t → g ≡ in_run skip radix (get_or t i 0) → g ≡ false → i + run_more skip radix (drop i t) ≡ w → i ≡ w
  run-stop h e g inv = omega (arith, more_no h (sym e ∙ g))

  pub run-over : {w : ℕ} → length t ≤ i → i + run_more skip radix (drop i t) ≡ w → i ≡ w
  run-over h inv =
      let none : run_more skip radix (drop i t) ≡ 0 = ap (run_more skip radix) (drop_of_length-le t h) ∙ more-none skip radix in
      omega arith

-- ---- the run at a place, which is where the code finds it
module _ (t : List ℕ) (from radix : ℕ) (skip : Bool) where
  pub end_some : {d : Bool} → from < length t → d ≡ is_digit radix (get_or t from 0) → d ≡ true
      → from + 1 + run_more skip radix (drop (from + 1) t) ≡ from + run_len skip radix (drop from t)
  unfolding run_len
  end_some h e g = omega (arith, len-some)
    where
      len-some : run_len skip radix (drop from t) ≡ suc (run_more skip radix (drop (from + 1) t))
      len-some = rw (add-one, drop-cons t from 0 h, sym e ∙ g)

  pub end_none : {d : Bool} → from < length t → d ≡ is_digit radix (get_or t from 0) → d ≡ false → from ≡ from + run_len skip radix (drop from t)
  unfolding run_len
  end_none h e g = omega (arith, len-none)
    where
      len-none : run_len skip radix (drop from t) ≡ 0
      len-none = rw (drop-cons t from 0 h, sym e ∙ g)

  pub end_past : length t ≤ from → from ≡ from + run_len skip radix (drop from t)
  unfolding run_len
  end_past h = omega (arith, len-past)
    where
      len-past : run_len skip radix (drop from t) ≡ 0
      len-past = rw (drop_of_length-le t h)

-- a run is no longer than what there is
pub len-fits : (skip : Bool) (radix : ℕ) (t : List ℕ) → run_len skip radix t ≤ length t
unfolding run_len
len-fits skip radix [] = omega arith
len-fits skip radix (b ∷ t) = go (is_digit radix b)
  where
    go : (d : Bool) → cond d (suc (run_more skip radix t)) 0 ≤ length (b ∷ t)
    go true = omega (arith, more-fits skip radix t)
    go false = omega arith
