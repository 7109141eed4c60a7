-- `units::round` meets its contract: the magnitude to the nearest, ties away from zero, with the sign, in steps. Assumes nothing.
use Rattle.std.proofs.Common.{ℕ, ◌^◌, pow_pos}
use Rattle.units.specs.Meaning.{nearest_away}
use Rattle.units.specs.Units.{by-size, in-steps, away-none}
use Rattle.units.proofs.round.Goals as goal

pub returns : goal.returns
returns c =
    let m = 2 ^ c.args.format.frac in
    in-steps m (by-size (λ (n : ℕ). nearest_away n m) c.args.x.neg c.args.x.size (away-none m (pow_pos c.args.format.frac)) c.nearest_away-size.ensures)
    c.in_steps.ensures
