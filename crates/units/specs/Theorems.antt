-- What is proved of the meaning, without code, for the crates above too: the floor is a whole number of units, not above z and less than a unit below
-- it. Assumes nothing.
use Rattle.std.specs.Prelude.{ℕ, ◌<◌, ℤ, pos, ◌+ℤ◌, ◌*ℤ◌, ◌≤ℤ◌, ◌<ℤ◌}
use Rattle.laws.specs.Diff.{add-out}
use Rattle.laws.specs.Floor.{floor, floor-out}
use Rattle.laws.specs.Order.{mul-out}
use Rattle.laws.specs.Signed.{signed as kit}
use Rattle.units.specs.Meaning.{floor_to}

pub floor-below : (z : ℤ) (m : ℕ) → 0 < m → (floor_to z m ≤ℤ z) × (z <ℤ (floor_to z m +ℤ pos m))
floor-below z m h =
    let q = floor z m in
    (omega (kit, floor-out z m h, mul-out q m), omega (kit, floor-out z m h, mul-out q m, add-out (q *ℤ pos m) (pos m)))
