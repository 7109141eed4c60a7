-- `results::dist` meets its contract: the magnitude of the difference. Assumes nothing.
use Rattle.std.proofs.Common.{◌+◌, ◌*◌, ◌^◌, ◌+ℤ◌, refl}
use Rattle.exact.specs.Signs.{via₂}
use Rattle.results.specs.Results.{size_of}
use Rattle.results.proofs.dist.Goals as goal

pub returns : goal.returns
returns c =
    let d = c.sum-d.result in
    size_of d.neg (d.high * 2 ^ 64 + d.low) (via₂ ◌+ℤ◌ refl c.negated.ensures c.sum-d.ensures)
