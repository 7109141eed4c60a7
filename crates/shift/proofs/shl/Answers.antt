-- `shift::shl` meets its promise: the refusals first, then the raw times a power of two, wrapped, with the flag of the count. Assumes nothing.
use Rattle.std.proofs.Common.{arith, ℕ, ℤ, pos, ◌^◌, ◌%◌, ◌*ℤ◌}
use Rattle.std.proofs.Math.Nat.{mod-lt}
use Rattle.format.specs.Answer.{exit-answered}
use Rattle.format.specs.Fault.{width-bounds}
use Rattle.exact.specs.Signs.{via}
use Rattle.shift.specs.Settled.{shifted}
use Rattle.shift.proofs.shl.Goals as goal

pub returns-in_err-format : goal.returns-in_err-format
returns-in_err-format g c =
    exit-answered g.R.Raw.kind _ _ c.from_residual.result c.from_residual.ensures.1 c.in_err-format.ensures.err

pub nonzero_rem-count : goal.nonzero_rem-count
nonzero_rem-count g c = omega (arith, width-bounds _ c.in_ok-format.format.one_of_four)

pub shifted_left-shifted-requires : goal.shifted_left-shifted-requires
shifted_left-shifted-requires g c =
    let f = c.in_ok-format.format in
    let b = width-bounds _ f.one_of_four in
    omega (arith, b, mod-lt c.args.count {m = f.width} (omega arith))

pub returns : goal.returns
returns g c =
    let a = c.args in
    shifted g.R.Raw.kind a.manner a.count (λ (w : ℕ). g.R.Raw.kind.number_of a.a *ℤ pos (2 ^ (a.count % w))) c.in_ok-format.ensures.ok
    (via (λ (x : ℤ). x *ℤ pos (2 ^ (a.count % c.in_ok-format.format.width))) c.of.ensures c.shifted_left-shifted.ensures) c.wrapped.ensures
