-- `wrapped` meets its contract: the residue is below 2^W, and its raw is the number's wrap. Assumes nothing.
use Rattle.std.proofs.Common.{arith, ◌∙◌}
use Rattle.std.proofs.Math.Path.{ap}
use Rattle.format.specs.Fault.{width-bounds}
use Rattle.format.specs.Place.{residue-below, residue-raw-wraps, residue_raw}
use Rattle.format.proofs.wrapped.Goals as goal

pub of_residue-requires : goal.of_residue-requires
of_residue-requires g c = rw c.residue.ensures (residue-below c.args.x.neg c.args.x.low c.args.format.width)

pub returns : goal.returns
returns g c =
    let f = c.args.format in
    let x = c.args.x in
    let b = width-bounds f.width f.one_of_four in
    let k = g.R.Raw.kind in
    c.of_residue.ensures
    ∙ ap (λ (u : _). k.raw_of (residue_raw k.sign u f.width)) c.residue.ensures
    ∙ ap k.raw_of (residue-raw-wraps x.high x.low f.width (omega arith) b.1 x.neg k.sign)
