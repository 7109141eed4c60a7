-- A shift to the right that copies the sign, `shr_z z m` with m a power of two, is the floor of z / m: the one q with q m ≤ z < q m + m.
-- Assumes nothing.
use Rattle.std.specs.Prelude.{◌≡◌, ◌⊎◌, ℕ, zero, ◌+◌, ◌*◌, ◌≤◌, ◌<◌, ℤ, pos, negsuc, ◌+ℤ◌, ◌*ℤ◌, ◌≤ℤ◌, ◌<ℤ◌}
use Rattle.std.proofs.Common.{sym, ap, inl, inr, arith, div-add-mod', mod-lt}
use Rattle.std.proofs.Math.Nat.{div-div-eq-div-mul}
use Rattle.std.specs.Int.Signed.{shr_z, ≤ℤ_refl}
use Rattle.laws.specs.Diff.{up, dn, add-out, orders}
use Rattle.laws.specs.Order.{≤ℤ-antisym, mul-out, <ℤ-or-≥ℤ, <ℤ→suc≤ℤ, *ℤ-mono-pos}
use Rattle.laws.specs.Ring.{*ℤ-distribʳ}

-- z / m rounded toward minus infinity: the name that meanings use
abbrev pub floor : ℤ → ℕ → ℤ
floor z m = shr_z z m

-- q is the floor of z / m
pub record IsFloor (z : ℤ) (m : ℕ) (q : ℤ) : Type 0 where
  pub low : (q *ℤ pos m) ≤ℤ z
  pub high : z <ℤ (q *ℤ pos m +ℤ pos m)

-- the same of the two naturals, for `omega`: q m + r = z with r below m
pub floor-out : (z : ℤ) (m : ℕ) → zero < m → (up (shr_z z m) * m + dn z ≤ up z + dn (shr_z z m) * m) × (up z + dn (shr_z z m) * m < up (shr_z z m) * m + m + dn z)
floor-out (pos a) m h = (omega (arith, div-add-mod' a m, mod-lt a h), omega (arith, div-add-mod' a m, mod-lt a h))
floor-out (negsuc a) m h = (omega (arith, div-add-mod' a m, mod-lt a h), omega (arith, div-add-mod' a m, mod-lt a h))

pub shr_z-floor : (z : ℤ) (m : ℕ) → zero < m → IsFloor z m (shr_z z m)
shr_z-floor z m h =
    let q = shr_z z m in
    record {
      low = omega (orders, floor-out z m h, mul-out q m);
      high = omega (orders, floor-out z m h, mul-out q m, add-out (q *ℤ pos m) (pos m));
    }

-- the floor keeps the order
pub floor-mono : {a b : ℤ} {m : ℕ} {p q : ℤ} → IsFloor a m p → IsFloor b m q → a ≤ℤ b → p ≤ℤ q
floor-mono {a} {b} {m} {p} {q} f g h = pick (<ℤ-or-≥ℤ q p)
  where
    pick : (q <ℤ p) ⊎ (p ≤ℤ q) → p ≤ℤ q
    pick (inl l) =
        let next = *ℤ-distribʳ q (pos 1) (pos m) in
        let more = *ℤ-mono-pos m (<ℤ→suc≤ℤ l) in
        absurd (omega (orders, f.low, g.high, add-out (q *ℤ pos m) (pos m), add-out (q *ℤ pos m) (pos 1 *ℤ pos m)))
    pick (inr l) = l

-- there is one floor
pub floor-unique : {z : ℤ} {m : ℕ} {p q : ℤ} → IsFloor z m p → IsFloor z m q → p ≡ q
floor-unique {z} f g = ≤ℤ-antisym (floor-mono f g (≤ℤ_refl z)) (floor-mono g f (≤ℤ_refl z))

-- q = shr_z z m where, and only where, q m ≤ z < q m + m
pub floor-shr_z : {z : ℤ} {m : ℕ} {q : ℤ} → zero < m → IsFloor z m q → q ≡ shr_z z m
floor-shr_z {z} {m} h f = floor-unique f (shr_z-floor z m h)

pub shr_z-mono : {a b : ℤ} (m : ℕ) → zero < m → a ≤ℤ b → shr_z a m ≤ℤ shr_z b m
shr_z-mono {a} {b} m h l = floor-mono (shr_z-floor a m h) (shr_z-floor b m h) l

-- a whole multiple of m: alone, and added
pub shr_z-exact : (q : ℤ) (m : ℕ) → zero < m → shr_z (q *ℤ pos m) m ≡ q
shr_z-exact q m h =
    let f : IsFloor (q *ℤ pos m) m q = record { low = ≤ℤ_refl (q *ℤ pos m); high = omega (orders, add-out (q *ℤ pos m) (pos m)) } in
    sym (floor-shr_z h f)

pub shr_z-add : (z q : ℤ) (m : ℕ) → zero < m → shr_z (z +ℤ q *ℤ pos m) m ≡ shr_z z m +ℤ q
shr_z-add z q m h =
    let p = shr_z z m in
    let f = shr_z-floor z m h in
    let sum = *ℤ-distribʳ p q (pos m) in
    let g : IsFloor (z +ℤ q *ℤ pos m) m (p +ℤ q) = record {
      low = omega (orders, f.low, add-out z (q *ℤ pos m), add-out (p *ℤ pos m) (q *ℤ pos m));
      high =
          omega (orders, f.high, add-out z (q *ℤ pos m), add-out (p *ℤ pos m) (q *ℤ pos m), add-out (p *ℤ pos m) (pos m), add-out ((p +ℤ q) *ℤ pos m) (pos m));
    } in
    sym (floor-shr_z h g)

-- two shifts are one
pub shr_z-shr_z : (z : ℤ) (m n : ℕ) → shr_z (shr_z z m) n ≡ shr_z z (m * n)
shr_z-shr_z (pos a) m n = ap pos (div-div-eq-div-mul a m n)
shr_z-shr_z (negsuc a) m n = ap negsuc (div-div-eq-div-mul a m n)
