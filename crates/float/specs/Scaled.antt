-- n x 2^p / 2^d to the nearest: two powers of two cancel, whichever is larger. Assumes nothing.
use Rattle.std.specs.Prelude.{◌≡◌, ℕ, ◌-◌, ◌*◌, ◌^◌, ◌≤◌}
use Rattle.std.proofs.Common.{ap, ◌∙◌, arith, pow_pos}
use Rattle.laws.specs.Nearest.{nearest_even, nearest-scale, nearest-exact}
use Rattle.laws.specs.Powers.{power-sub}

pub scaled-few : (p n d : ℕ) → d ≤ p → nearest_even (n * 2 ^ p) (2 ^ d) ≡ n * 2 ^ (p - d)
scaled-few p n d h =
    ap (λ (v : ℕ). nearest_even v (2 ^ d)) (ap (λ (v : ℕ). n * v) (power-sub d p h) ∙ omega arith)
    ∙ nearest-exact (n * 2 ^ (p - d)) (2 ^ d) (pow_pos d)

pub scaled-many : (p n d : ℕ) → p ≤ d → nearest_even (n * 2 ^ p) (2 ^ d) ≡ nearest_even n (2 ^ (d - p))
scaled-many p n d h =
    ap (λ (v : ℕ). nearest_even (n * 2 ^ p) v) (power-sub p d h)
    ∙ nearest-scale n (2 ^ (d - p)) (2 ^ p) (pow_pos (d - p)) (pow_pos p)
