-- `results::div_euclid` meets its contract: the floor by the magnitude, with the sign turned by the divisor's, in steps. Assumes nothing.
use Rattle.std.proofs.Common.{◌^◌}
use Rattle.exact.specs.Meaning.{number_of}
use Rattle.units.specs.Units.{in-steps}
use Rattle.results.specs.Results.{turned}
use Rattle.results.proofs.div_euclid.Goals as goal

pub returns : goal.returns
returns c =
    let y = c.args.y in
    let q = c.floor-q.result in
    in-steps (2 ^ c.args.format.frac) (turned q.neg y.neg q.size y.size (number_of c.args.x) c.requires c.floor-q.ensures) c.in_steps.ensures
