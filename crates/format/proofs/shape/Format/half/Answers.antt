-- `Format::half` meets its contract: the count is below 64, so the shift loses nothing. Assumes nothing.
use Rattle.std.proofs.Common.{◌∙◌, arith, ◌-◌, ◌^◌}
use native.Mathlib.Nat.{one-mul}
use lib.Pow.{shl_exact}
use Rattle.format.specs.Fault.{width-bounds}
use Rattle.format.proofs.shape.Format.half.Goals as goal

pub overflow_sub-result : goal.overflow_sub-result
overflow_sub-result c = omega (arith, width-bounds c.args.self.width c.args.self.one_of_four)

pub overflow_shl-result : goal.overflow_shl-result
overflow_shl-result c = omega (arith, width-bounds c.args.self.width c.args.self.one_of_four)

pub returns : goal.returns
returns c =
    let b = width-bounds c.args.self.width c.args.self.one_of_four in
    shl_exact {a = 1} 1 (c.args.self.width - 1) 64 (omega arith) (omega arith) ∙ one-mul (2 ^ (c.args.self.width - 1))
