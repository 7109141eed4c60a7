-- `float::pattern::Binary::significand` meets its contract: with the leading one, or without. Assumes nothing.
use Rattle.float.specs.Parts.{subnormal, leading}
use Rattle.float.proofs.pattern.Binary.significand.Goals as goal

pub returns-then-e-eq0 : goal.returns-then-e-eq0
returns-then-e-eq0 c =
    let b = c.args.self in
    subnormal b.precision c.args.e c.args.t b.small.most b.small.some c.requires c.if-e-eq0.true

pub returns : goal.returns
returns c =
    let b = c.args.self in
    leading b.precision c.args.e c.args.t b.small.most b.small.some c.requires c.if-e-eq0.false c.power.ensures
