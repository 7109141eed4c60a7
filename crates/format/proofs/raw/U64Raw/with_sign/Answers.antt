-- An unsigned raw is its number's magnitude: a negative number within the limit is 0. Assumes nothing.
use Rattle.format.specs.Settle.{held_up}
use Rattle.std.proofs.Math.Path.{refl}
use Rattle.format.proofs.raw.U64Raw.with_sign.Goals as goal

pub returns : goal.returns
returns c = held_up c.args._format.width c.args._neg refl c.requires
