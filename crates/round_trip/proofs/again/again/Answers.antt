-- Writing and reading back gives the same raw: by the two promises, and nothing else of the two functions. Assumes nothing.
use Rattle.std.proofs.Math.Path.{refl}
use Rattle.round_trip.specs.Again.{read_again, never-refused}
use Rattle.round_trip.proofs.again.again.Goals as goal

pub returns-in_err-written : goal.returns-in_err-written
returns-in_err-written g c = never-refused g.R.Raw.kind c.args.raw c.args.width c.args.frac c.args.out.now c.in_err-written.ensures refl

pub returns : goal.returns
returns g c =
    read_again g.R.Raw.kind c.args.raw c.args.width c.args.frac c.args.out.now c.in_ok-written.ensures c.args.manner refl c.read_back.ensures
