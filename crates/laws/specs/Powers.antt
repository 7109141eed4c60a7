-- A power in two parts. Assumes nothing.
use Rattle.std.specs.Prelude.{◌≡◌, ℕ, zero, suc, ◌+◌, ◌-◌, ◌*◌, ◌^◌, ◌≤◌}
use Rattle.std.proofs.Common.{ap, ◌∙◌, pow-suc, arith, pow-add}
use Rattle.std.proofs.Math.Nat.{pow-zero}

pub power-sub : (i j : ℕ) → i ≤ j → 2 ^ j ≡ 2 ^ (j - i) * 2 ^ i
power-sub i j h = let e : j ≡ (j - i) + i = omega arith in ap (λ (k : ℕ). 2 ^ k) e ∙ pow-add 2 (j - i) i

pub double : (i : ℕ) → 1 ≤ i → 2 ^ i ≡ 2 ^ (i - 1) * 2
double i h = power-sub 1 i h

-- a power of ten: its fives and its twos
pub ten-power : (k : ℕ) → 10 ^ k ≡ 5 ^ k * 2 ^ k
ten-power zero = simp pow-zero
ten-power (suc k) = simp pow-suc (omega (arith, ten-power k))
