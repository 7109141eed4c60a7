-- `results::signum` meets its contract: the magnitude held to one, with the sign, in steps. Assumes nothing.
use Rattle.std.proofs.Common.{refl, ℕ, ◌^◌, min}
use Rattle.units.specs.Units.{by-size, in-steps}
use Rattle.results.proofs.signum.Goals as goal

pub returns : goal.returns
returns c =
    let x = c.args.x in
    in-steps (2 ^ c.args.format.frac) (by-size (λ (n : ℕ). min n 1) x.neg x.size refl c.min-size.ensures) c.in_steps.ensures
