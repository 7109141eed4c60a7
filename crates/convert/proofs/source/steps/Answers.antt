-- `convert::source::steps` meets its contract: more bits are a product, fewer the floor (`Theorems`). Assumes nothing.
use Rattle.std.proofs.Common.{arith, sym, ◌∙◌, ◌-◌, ◌^◌, ℤ, pos, ◌*ℤ◌}
use Rattle.format.specs.Fault.{width-bounds}
use Rattle.exact.specs.Signs.{via}
use Rattle.convert.specs.Theorems.{steps-more, steps-fewer}
use Rattle.convert.proofs.source.steps.Goals as goal

pub shifted_left-requires : goal.shifted_left-requires
shifted_left-requires g c =
    let f = c.args.format in
    omega (arith, width-bounds _ f.one_of_four, f.within)

pub returns-then-from_frac-format : goal.returns-then-from_frac-format
returns-then-from_frac-format g c =
    let a = c.args in
    via (λ (z : ℤ). z *ℤ pos (2 ^ (a.format.frac - a.from_frac))) c.of.ensures c.shifted_left.ensures
    ∙ sym (steps-more a.from_frac a.format.frac _ c.if-from_frac-format.true)

pub returns : goal.returns
returns g c =
    let a = c.args in
    c.into.ensures ∙ c.of-2.ensures ∙ c.dropped.ensures ∙ sym (steps-fewer a.from_frac a.format.frac _ (omega arith))
