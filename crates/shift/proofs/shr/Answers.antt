-- `shift::shr` meets its promise: the refusals first, then the floor of the raw over a power of two, wrapped, with the flag of the
-- count. Assumes nothing.
use Rattle.std.proofs.Common.{arith, ℕ, ℤ, ◌^◌, ◌%◌, ◌∙◌}
use Rattle.laws.specs.Floor.{floor}
use Rattle.format.specs.Answer.{exit-answered}
use Rattle.format.specs.Fault.{width-bounds}
use Rattle.exact.specs.Signs.{via}
use Rattle.shift.specs.Settled.{shifted}
use Rattle.shift.proofs.shr.Goals as goal

pub returns-in_err-format : goal.returns-in_err-format
returns-in_err-format g c =
    exit-answered g.R.Raw.kind _ _ c.from_residual.result c.from_residual.ensures.1 c.in_err-format.ensures.err

pub nonzero_rem-count : goal.nonzero_rem-count
nonzero_rem-count g c = omega (arith, width-bounds _ c.in_ok-format.format.one_of_four)

pub returns : goal.returns
returns g c =
    let a = c.args in
    shifted g.R.Raw.kind a.manner a.count (λ (w : ℕ). floor (g.R.Raw.kind.number_of a.a) (2 ^ (a.count % w))) c.in_ok-format.ensures.ok
    (via (λ (z : ℤ). floor z (2 ^ (a.count % c.in_ok-format.format.width))) (c.into.ensures ∙ c.of.ensures) c.floor-shifted.ensures) c.wrapped.ensures
