-- The guess, with one more where the next power of ten is reached, is the logarithm: that power is reached and the one above it is not,
-- which decides (`by_next`). Assumes nothing.
use mathlib.Core.Path.{◌≡◌, sym, ◌∙◌}
use mathlib.Core.Bool.{Bool, true, false}
use Prim.Native.Nat.{ℕ, zero, suc, ◌+◌, ◌^◌, ◌≤◌, ◌<◌}
use native.Mathlib.Nat.{add-zero}
use lib.Count.{count_leading_zeros}
use lib.IntN.{ℤ, pos, negsuc, suc_ℤ, ◌-ℤ◌}
use mir.Val.{bool_byte}
use borrow.Author.Tests.{le-leb, lt-leb}
use Rattle.laws.specs.Diff.{up, dn, sub_out, orders}
use Rattle.log10.specs.Meaning.{reaches, log10_of}
use Rattle.log10.specs.Theorems.{by_next, log10-only}
use Rattle.log10.proofs.Compare.{on-scale}
use Rattle.log10.proofs.Leading.{Rounded, reached, not-above}

suc-minus : (i s : ℕ) → suc_ℤ (pos i -ℤ pos s) ≡ pos (i + 1) -ℤ pos s
suc-minus i s = go (pos i -ℤ pos s) (sub_out (pos i) (pos s))
  where
    go : (k : ℤ) → up k + (0 + s) ≡ (i + 0) + dn k → suc_ℤ k ≡ pos (i + 1) -ℤ pos s
    go (pos n) e = omega (orders, sub_out (pos (i + 1)) (pos s))
    go (negsuc zero) e = omega (orders, sub_out (pos (i + 1)) (pos s))
    go (negsuc (suc n)) e = omega (orders, sub_out (pos (i + 1)) (pos s))

module _ (raw f g : ℕ) (h : 0 < raw) (b : raw < 2 ^ 64) (l : f ≤ 64) (r : Rounded (count_leading_zeros 64 raw + f) g) where
  -- i of the scale is the logarithm where it is reached and i + 1 is not
  is-log : (i : ℕ) → reaches raw f (pos i -ℤ pos 20) ≡ true → reaches raw f (pos (i + 1) -ℤ pos 20) ≡ false → pos i -ℤ pos 20 ≡ log10_of raw f
  is-log i y n = log10-only raw f (pos i -ℤ pos 20) h b l (by_next raw f (pos i -ℤ pos 20) y (rw (suc-minus i 20) n))

  pub mended : (t : Bool) → t ≡ reaches raw f (pos g -ℤ pos 19) → pos (g + bool_byte t) -ℤ pos 20 ≡ log10_of raw f
  mended t e = go t (e ∙ rw same)
    where
      same : pos g -ℤ pos 19 ≡ pos (g + 1) -ℤ pos 20
      same = omega (orders, sub_out (pos g) (pos 19), sub_out (pos (g + 1)) (pos 20))

      go : (t : Bool) → t ≡ reaches raw f (pos (g + 1) -ℤ pos 20) → pos (g + bool_byte t) -ℤ pos 20 ≡ log10_of raw f
      go true e = is-log (g + 1) (sym e) (on-scale raw f (g + 1 + 1) 20 ∙ lt-leb _ _ (not-above raw f g h b l r))
      go false e = rw add-zero (is-log g (on-scale raw f g 20 ∙ le-leb _ _ (reached raw f g h b l r)) (sym e))
