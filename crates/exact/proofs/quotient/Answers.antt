-- `exact::quotient` meets its contract: the quotient of the magnitudes, with the sign of the quotient. Assumes nothing.
use mathlib.Core.Path.{◌∙◌, ap}
use mathlib.Core.Bool.{not, beq}
use Prim.Native.Nat.{ℕ, ◌^◌, ◌*◌, ◌/◌}
use lib.IntN.{ℤ}
use lib.Signed.{quot_z}
use Rattle.format.specs.Meaning.{with_sign}
use Rattle.exact.specs.Signs.{quotient-sign, scaled_sign}
use Rattle.exact.proofs.quotient.Goals as goal

pub returns : goal.returns
returns c =
    let a = c.args in
    let same = c.div-division.ensures.quotient ∙ ap (λ (n : ℕ). n / a.y.size) c.scaled.ensures in
    c.new.ensures ∙ ap (with_sign (not (beq a.x.neg a.y.neg))) same
    ∙ quotient-sign a.x.neg a.y.neg (a.x.size * 2 ^ a.frac) a.y.size c.requires.0
    ∙ ap (λ (z : ℤ). quot_z z (with_sign a.y.neg a.y.size)) (scaled_sign a.x.neg a.x.size (2 ^ a.frac))
