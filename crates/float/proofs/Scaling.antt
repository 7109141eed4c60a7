-- A word times 2^up over 2^down, rounded, as the code finds it: the powers are cancelled, and past two words only whole 2^64 are left. Assumes nothing.
use mathlib.Core.Path.{◌≡◌, sym, ap, ◌∙◌}
use Prim.Native.Nat.{ℕ, ◌-◌, ◌*◌, ◌/◌, ◌%◌, ◌^◌, ◌≤◌, ◌<◌}
use native.Mathlib.Nat.{mod-lt, div-lt_iff_lt-mul, eq_of_mul-eq-mul_right, le_of_lt}
use native.Mathlib.Omega.{arith}
use lib.Bits.{bit_and}
use lib.Pow.{pow_pos, pow_mono, shl_exact}
use Rattle.laws.specs.Nearest.{nearest_even, nearest-scale, nearest-none}
use Rattle.laws.specs.Powers.{power-sub}
use Rattle.wide.specs.declared.Wide.{Wide}
use Rattle.wide.specs.Meaning.{value_of}
use Rattle.format.specs.Place.{masked}
use Rattle.float.specs.Folds.{Folds}
use Rattle.float.specs.Scaled.{scaled-few}

-- ---- what a shift and a mask leave of a word; and less than half of 2^64
pub half_left : (m k : ℕ) → m < 2 ^ 64 → 0 < k → m / 2 ^ k < 2 ^ 63
half_left m k h l = (div-lt_iff_lt-mul (pow_pos k)).1 (omega (arith, pow_mono {i = 1} {j = k} l))

pub masked_below : (m k : ℕ) {o : ℕ} → k < 64 → o ≡ 2 ^ k - 1 → bit_and m o < 2 ^ 63
masked_below m k h e = omega (arith, masked m k _ e, mod-lt m (pow_pos k), pow_mono {i = k} {j = 63} (omega arith))

pub nothing_left : (m k : ℕ) → m < 2 ^ 63 → 64 ≤ k → 0 ≡ nearest_even m (2 ^ k)
nothing_left m k h l = sym (nearest-none m (2 ^ k) (omega (arith, pow_mono {i = 64} {j = k} l)))

-- ---- two powers cancel
pub less-up : (m up down : ℕ) {r : Wide} → up < down → value_of r ≡ nearest_even m (2 ^ (down - up)) → Folds (nearest_even (m * 2 ^ up) (2 ^ down)) r
less-up m up down {r} h e =
    let same : nearest_even (m * 2 ^ up) (2 ^ down) ≡ value_of r =
    ap (nearest_even (m * 2 ^ up)) (power-sub up down (le_of_lt h)) ∙ nearest-scale m (2 ^ (down - up)) (2 ^ up) (pow_pos (down - up)) (pow_pos up) ∙ sym e in
    record { whole = r.high; same = same; none = λ z. z; some = λ z. z }

pub some_up : (m up down : ℕ) {r : Wide} → m < 2 ^ 64 → down ≤ up → up - down < 64 → value_of r ≡ m * 2 ^ (up - down) % 2 ^ 128
    → Folds (nearest_even (m * 2 ^ up) (2 ^ down)) r
some_up m up down {r} w h l e =
    let v : value_of r ≡ m * 2 ^ (up - down) = e ∙ shl_exact {a = m} 64 (up - down) 128 w (omega arith) in
    record { whole = r.high; same = scaled-few up m down h ∙ sym v; none = λ z. z; some = λ z. z }

pub far-up : (m up down : ℕ) → down ≤ up → 64 ≤ up - down → Folds (nearest_even (m * 2 ^ up) (2 ^ down)) (record { high = m; low = 0 })
far-up m up down h l =
    let k = up - down in
    record {
      whole = m * 2 ^ (k - 64);
      same = scaled-few up m down h ∙ rw (power-sub 64 k l) (omega arith);
      none = λ z. rw z (omega arith);
      some = λ z. eq_of_mul-eq-mul_right (2 ^ (k - 64)) (pow_pos (k - 64)) m 0 (omega arith);
    }
