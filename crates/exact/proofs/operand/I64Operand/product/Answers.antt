-- 128 bits hold the product of two signed words, and the shift copies its sign, so it is the floor. Assumes nothing.
use Rattle.std.proofs.Common.{ap, ap₂, ◌∙◌, arith, ℤ, ◌*ℤ◌, ◌^◌, to_z, of_z, to_z-of_z, SFits}
use Rattle.std.specs.Prelude.{min}
use mir.Syntax.{w64, w128}
use Rattle.laws.specs.Bound.{abs-sfits, sfits-mul}
use Rattle.laws.specs.Floor.{floor}
use Rattle.laws.specs.Shifts.{signed-right}
use Rattle.laws.specs.Signed.{ok-back}
use Rattle.exact.proofs.operand.I64Operand.product.Goals as goal

pub returns : goal.returns
returns c =
    let a = c.args in
    let r = c.unbounded_shr in
    let fits : SFits w128 (a.self *ℤ a.other) = abs-sfits w128 (a.self *ℤ a.other) (omega (arith, sfits-mul c.ranges.self c.ranges.other)) in
    let one = ok-back w128 c.from.result c.from.type_inv ∙ c.from.ensures ∙ to_z-of_z {w = w64} c.ranges.self in
    let other = ok-back w128 c.from-2.result c.from-2.type_inv ∙ c.from-2.ensures ∙ to_z-of_z {w = w64} c.ranges.other in
    let product = ap₂ (λ (x y : ℤ). to_z w128 (of_z w128 (x *ℤ y))) one other ∙ to_z-of_z {w = w128} fits in
    c.into.ensures ∙ ok-back w128 r.result r.type_inv ∙ r.ensures
    ∙ ap (λ (z : ℤ). floor z (2 ^ min a.frac 127)) product
    ∙ signed-right w128 (a.self *ℤ a.other) a.frac fits
