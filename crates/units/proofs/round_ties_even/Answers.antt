-- `units::round_ties_even` meets its contract: the magnitude to the nearest, ties to even, with the sign, in steps. Assumes nothing.
use Rattle.std.proofs.Common.{ℕ, ◌^◌, pow_pos}
use Rattle.laws.specs.Nearest.{nearest_even}
use Rattle.units.specs.Units.{by-size, in-steps, even-none}
use Rattle.units.proofs.round_ties_even.Goals as goal

pub returns : goal.returns
returns c =
    let m = 2 ^ c.args.format.frac in
    in-steps m (by-size (λ (n : ℕ). nearest_even n m) c.args.x.neg c.args.x.size (even-none m (pow_pos c.args.format.frac)) c.nearest_even-size.ensures)
    c.in_steps.ensures
