-- `exact::sum` meets its contract: 128 bits hold the sum of two numbers of 65. Assumes nothing.
use Rattle.std.proofs.Common.{ap₂, ◌∙◌, arith, ℤ, ◌+ℤ◌, ◌<◌, ◌^◌, to_z, of_z, to_z-of_z, SFits}
use mir.Syntax.{w128}
use Rattle.laws.specs.Bound.{abs-add, abs-sfits}
use Rattle.laws.specs.Signed.{ok-back}
use Rattle.exact.specs.declared.Number.{Number}
use Rattle.exact.specs.Meaning.{number_of}
use Rattle.exact.specs.Signs.{abs-sign}
use Rattle.exact.proofs.sum.Goals as goal

fits : (x y : Number) → x.size < 2 ^ 64 → y.size < 2 ^ 64 → SFits w128 (number_of x +ℤ number_of y)
fits x y h k =
    abs-sfits w128 (number_of x +ℤ number_of y)
    (omega (arith, h, k, abs-add (number_of x) (number_of y), abs-sign x.neg x.size, abs-sign y.neg y.size))

pub overflow_add-from : goal.overflow_add-from
overflow_add-from c =
    rw (ok-back w128 c.from.result c.from.type_inv, c.from.ensures, ok-back w128 c.from-2.result c.from-2.type_inv, c.from-2.ensures)
    (fits c.args.x c.args.y (omega arith) (omega arith))

pub returns : goal.returns
returns c =
    let x = ok-back w128 c.from.result c.from.type_inv ∙ c.from.ensures in
    let y = ok-back w128 c.from-2.result c.from-2.type_inv ∙ c.from-2.ensures in
    c.into.ensures ∙ ap₂ (λ (a b : ℤ). to_z w128 (of_z w128 (a +ℤ b))) x y
    ∙ to_z-of_z {w = w128} (fits c.args.x c.args.y (omega arith) (omega arith))
