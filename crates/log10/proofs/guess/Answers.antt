-- The test that is computed at every number of zeros and fraction bits (`Leading.antt`); the ranges are linear.
use mathlib.Core.Path.{◌≡◌, ap, subst}
use Prim.Native.Nat.{ℕ, ◌+◌, ◌-◌, ◌*◌, ◌/◌}
use native.Mathlib.Omega.{arith}
use Rattle.log10.proofs.Leading.{guess_of, Rounded, guess-right}
use Rattle.log10.proofs.guess.Goals as goal

pub returns : goal.returns
returns c =
    let z = c.args.zeros in
    let f = c.args.frac in
    let n : 20 * 4096 + 1233 * 63 - 1233 * (z + f) ≡ 20 * 4096 + 1233 * (63 - z) - 1233 * f = omega (arith, c.requires) in
    let e : guess_of (z + f) ≡ (20 * 4096 + 1233 * (63 - z) - 1233 * f) / 4096 = ap (λ (n : ℕ). n / 4096) n in
    let r = subst (Rounded (z + f)) e (guess-right (z + f) (omega (arith, c.requires))) in
    (r.0, r.1, omega (arith, c.requires), omega (arith, c.requires), omega (arith, c.requires))
