-- Rounding by the middle where a whole part stands beside the fraction: the tie is decided by the last bit of the sum. Assumes nothing.
use Rattle.std.specs.Prelude.{◌≡◌, ℕ, ◌+◌, ◌*◌, ◌≤◌, ◌<◌}
use Rattle.std.proofs.Common.{ap, ap₂, ◌∙◌, arith}
use Rattle.laws.specs.Nearest.{nearest_even}
use Rattle.std.specs.declared.cmp.Ordering.{Ordering}
use Rattle.std.specs.Ordering.{nat_cmp}
use Rattle.fold.specs.Round.{round_by, nearest-middle}
use Rattle.tens.specs.Order.{cmp-shift}

module _ (k n d q : ℕ) (some : 0 < d) (low : q * d ≤ n) (high : n * 2 < (q * 2 + 3) * d) where
  pub middle-beside : nearest_even (k * d + n) d ≡ round_by (nat_cmp (n * 2) ((q * 2 + 1) * d)) (k + q)
  middle-beside =
      let left : (k * d + n) * 2 ≡ k * d * 2 + n * 2 = omega arith in
      let right : ((k + q) * 2 + 1) * d ≡ k * d * 2 + (q * 2 + 1) * d = omega arith in
      nearest-middle (k * d + n) d (k + q) some (omega arith) (omega arith)
      ∙ ap (λ (o : Ordering). round_by o (k + q)) (ap₂ nat_cmp left right ∙ cmp-shift (k * d * 2) (n * 2) ((q * 2 + 1) * d))
