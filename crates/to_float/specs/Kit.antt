-- The number nearest to a fraction, as the kit's library rounds (`lib.Ieee`: `round`), is the rounded number of the meaning: a second reading of the
-- standard that agrees. Assumes nothing.
use Rattle.std.specs.Prelude.{◌≡◌, refl, Bool, true, false, cond, ltb}
use Rattle.std.proofs.Common.{sym, ap, arith, lt-ltb, le-ltb, leb-true, leb-false, eqb-true}
use Prim.Native.Nat.{ℕ, ◌+◌, ◌*◌, ◌/◌, ◌%◌, ◌^◌, ◌≤◌, ◌<◌, compare, Ordering}
use Rattle.std.proofs.Math.Dec.{is_le, compare_is_eq}
use Rattle.std.specs.Float.{inf, Format, binary32 as kit32, binary64 as kit64}
use Rattle.std.specs.Float.Ieee.{odd, units, round, nearest as kitNearest}
use Rattle.std.proofs.lemmas.Bool.{eqb-false}
use Rattle.laws.specs.Nearest.{nearest_even, nearest_by}
use Rattle.float.specs.Meaning.{Binary, binary32, binary64, least, infinite, finite}
use Rattle.float.specs.Kit.{of_kit, Agrees, infinities, odd-agrees}
use Rattle.to_float.specs.Meaning.{significand, unit, nearest_steps, rounded_value}

-- the kit compares twice the remainder with the divisor
by_order : (q r d : ℕ) → kitNearest q (compare (r * 2) d) ≡ nearest_by q r d
unfolding nearest_by
by_order q r d = go (compare (r * 2) d) refl
  where
    go : (o : Ordering) → compare (r * 2) d ≡ o → kitNearest q o ≡ cond (ltb (r * 2) d) q (cond (ltb d (r * 2)) (q + 1) (q + q % 2))
    go Ordering.lt e =
        let l : r * 2 ≤ d = leb-true (r * 2) d (ap is_le e) in
        let n = eqb-false (r * 2) d (ap compare_is_eq e) in
        sym (rw (lt-ltb (r * 2) d (omega arith)))
    go Ordering.eq e =
        let n : r * 2 ≡ d = eqb-true (r * 2) d (ap compare_is_eq e) in
        sym (rw (le-ltb (r * 2) d (omega arith), le-ltb d (r * 2) (omega arith)))
    go Ordering.gt e =
        let l : d < r * 2 = leb-false (r * 2) d (ap is_le e) in
        sym (rw (le-ltb (r * 2) d (omega arith), lt-ltb d (r * 2) l) (omega arith))

-- q x 2^k steps, or past the largest number
units-agree : (b : Binary) (d m : ℕ) (s : Bool) (q k : ℕ)
    → Agrees b (cond (ltb (q * 2 ^ k) (2 ^ m)) (odd d s q k (least b)) (inf s)) (cond (ltb (q * 2 ^ k) (2 ^ m)) (finite s (q * 2 ^ k)) (infinite s))
units-agree b d m s q k = go (ltb (q * 2 ^ k) (2 ^ m))
  where
    go : (t : Bool) → Agrees b (cond t (odd d s q k (least b)) (inf s)) (cond t (finite s (q * 2 ^ k)) (infinite s))
    go true = odd-agrees b d s q k
    go false = infinities

-- the number nearest to n / 2^F
pub rounded-agrees : (f : Format) (s : Bool) (n g : ℕ) → Agrees (of_kit f) (round f s n (2 ^ g)) (rounded_value (of_kit f) s n g)
unfolding round units rounded_value nearest_steps nearest_even
rounded-agrees kit32 s n g =
    rw (by_order (n * 2 ^ 149 / (2 ^ g * 2 ^ unit binary32 n g)) (n * 2 ^ 149 % (2 ^ g * 2 ^ unit binary32 n g)) (2 ^ g * 2 ^ unit binary32 n g))
    (units-agree binary32 25 277 s (significand binary32 n g) (unit binary32 n g))
rounded-agrees kit64 s n g =
    rw (by_order (n * 2 ^ 1074 / (2 ^ g * 2 ^ unit binary64 n g)) (n * 2 ^ 1074 % (2 ^ g * 2 ^ unit binary64 n g)) (2 ^ g * 2 ^ unit binary64 n g))
    (units-agree binary64 54 2098 s (significand binary64 n g) (unit binary64 n g))
