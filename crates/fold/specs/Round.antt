-- Rounding by a comparison with the middle: the whole number below a fraction, or the next, by how the fraction compares with the middle
-- between the two. Assumes nothing.
use Rattle.std.specs.Prelude.{◌≡◌, refl, ℕ, zero, suc, ◌+◌, ◌*◌, ◌%◌, ◌≤◌, ◌<◌}
use Rattle.std.specs.declared.cmp.Ordering.{Ordering}
use Rattle.std.specs.declared.cmp.Ordering.TheVariants.{Less, Equal, Greater}
use Rattle.std.specs.Ordering.{MatchOrdering, nat_cmp}
use Rattle.std.specs.Cmp.{ranks}
use Rattle.std.proofs.Common.{arith}
use Rattle.laws.specs.Nearest.{Nearest, nearest_even, nearest, nearest-unique}

unfoldable pub round_by : Ordering → ℕ → ℕ
round_by Less q = q
round_by Equal q = q + q % 2
round_by Greater q = q + 1

-- q is the whole number below n / d, or the one below that if n / d is nearer to q + 1 all the same: the middle decides
module _ (n d q : ℕ) (some : 0 < d) (low : q * d ≤ n) (high : n * 2 < (q * 2 + 3) * d) where
  at-middle : n * 2 ≡ (q * 2 + 1) * d → (m : ℕ) → q % 2 ≡ m → m ≤ 1 → Nearest n d (q + m)
  at-middle e zero t l = record { below = omega arith; above = omega arith; tie-below = omega arith; tie-above = omega arith }
  at-middle e (suc zero) t l = record { below = omega arith; above = omega arith; tie-below = omega arith; tie-above = omega arith }
  at-middle e (suc (suc m)) t l = absurd (omega arith)

  pub nearest-middle : nearest_even n d ≡ round_by (nat_cmp (n * 2) ((q * 2 + 1) * d)) q
  unfolding round_by
  nearest-middle =
      nearest-unique n d _ _ some (nearest n d some) (go (nat_cmp (n * 2) ((q * 2 + 1) * d)) (ranks (n * 2) ((q * 2 + 1) * d)))
    where
      go : (o : Ordering) → MatchOrdering o (n * 2 < (q * 2 + 1) * d) (n * 2 ≡ (q * 2 + 1) * d) ((q * 2 + 1) * d < n * 2) → Nearest n d (round_by o q)
      go Less l = record { below = omega arith; above = omega arith; tie-below = λ h. absurd (omega arith); tie-above = λ h. absurd (omega arith) }
      go Equal e = at-middle e (q % 2) refl (omega arith)
      go Greater l = record { below = omega arith; above = omega arith; tie-below = λ h. absurd (omega arith); tie-above = λ h. absurd (omega arith) }
