-- What is proved of wrapping, for the crates above: only the residue modulo 2^W of a number counts. Assumes nothing.
use Rattle.std.specs.Prelude.{◌≡◌, ℕ, ◌^◌, ◌<◌, ℤ, pos, ◌+ℤ◌, ◌*ℤ◌}
use Rattle.std.proofs.Common.{sym}
use Rattle.laws.specs.Diff.{add-out}
use Rattle.laws.specs.Ring.{*ℤ-distribʳ}
use Rattle.laws.specs.Signed.{signed as kit}
use Rattle.format.specs.Meaning.{Sign, wrap}
use Rattle.format.specs.Theorems.{Congruent, wrap-in, wrap-congruent, wrap-only}

pub wrap-same : (s : Sign) (w : ℕ) {x y : ℤ} → 0 < w → Congruent (2 ^ w) x y → wrap s w x ≡ wrap s w y
wrap-same s w {x} {y} h c =
    let m = pos (2 ^ w) in
    let d = wrap-congruent s w h y in
    let z = wrap s w y in
    sym
    (wrap-only s w h x (wrap-in s w h y)
    (record {
      turns = d.turns +ℤ c.turns;
      differ =
          omega (
            kit,
            c.differ,
            d.differ,
            *ℤ-distribʳ d.turns c.turns m,
            add-out y (c.turns *ℤ m),
            add-out z (d.turns *ℤ m),
            add-out (d.turns *ℤ m)
                (c.turns *ℤ m),
            add-out z ((d.turns +ℤ c.turns) *ℤ m),
          );
    }))
