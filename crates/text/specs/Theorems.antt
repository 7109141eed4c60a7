-- A format makes of a number that is folded what it makes of the number. Assumes nothing.
use Rattle.std.specs.Prelude.{◌≡◌, Bool, true, ℕ, ◌/◌, ◌%◌, ◌^◌, ◌≤◌}
use Rattle.std.proofs.Math.Path.{ap}
use Rattle.std.proofs.Common.{◌∙◌, div-add-mod'}
use Rattle.std.proofs.Math.Decide.{dec_le}
use native.Mathlib.Omega.{arith}
use Rattle.format.specs.declared.Manner.{Manner}
use Rattle.format.specs.Meaning.{Sign, is_width, settle, with_sign}
use Rattle.format.proofs.Far.{settle-words}
use Rattle.fold.specs.Fold.{fold_of, folded_value, bit, value-small, value-past}

module _ (s : Sign) (w : ℕ) (neg : Bool) (m : ℕ) (width : is_width w ≡ true) where
  pub settle-folded : (k : Manner) → settle k s w (with_sign neg (folded_value (fold_of m))) ≡ settle k s w (with_sign neg m)
  unfolding fold_of
  settle-folded k =
      settle-words s w neg (m % 2 ^ 64) width k (bit (fold_of m).over) (m / 2 ^ 64) (to (dec_le (2 ^ 64) m)) (from (dec_le (2 ^ 64) m))
      ∙ ap (λ (n : ℕ). settle k s w (with_sign neg n)) (div-add-mod' m (2 ^ 64))
    where
      to : Dec (2 ^ 64 ≤ m) → bit (fold_of m).over ≡ 0 → m / 2 ^ 64 ≡ 0
      to (yes h) z = absurd (omega (arith, value-past m h))
      to (no h) z = omega arith

      from : Dec (2 ^ 64 ≤ m) → m / 2 ^ 64 ≡ 0 → bit (fold_of m).over ≡ 0
      from (yes h) z = absurd (omega arith)
      from (no h) z = omega (arith, value-small m (omega arith))
