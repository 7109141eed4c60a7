-- `exact::product` meets its contract: the floor of the two words of the product. Assumes nothing.
use mathlib.Core.Path.{◌∙◌, ap}
use mathlib.Core.Bool.{not, beq}
use Prim.Native.Nat.{◌^◌}
use lib.IntN.{ℤ}
use Rattle.laws.specs.Floor.{floor}
use Rattle.format.specs.Meaning.{with_sign}
use Rattle.exact.specs.Signs.{product-sign}
use Rattle.exact.proofs.product.Goals as goal

pub returns : goal.returns
returns c =
    let a = c.args in
    let same = c.new.ensures ∙ ap (with_sign (not (beq a.x.neg a.y.neg))) c.mul.ensures in
    c.floor.ensures ∙ ap (λ (z : ℤ). floor z (2 ^ a.frac)) (same ∙ product-sign a.x.neg a.y.neg a.x.size a.y.size)
