-- A magnitude within the signed limit fits a signed word. Assumes nothing.
use Rattle.std.proofs.Common.{◌∙◌}
use Rattle.std.proofs.Math.Path.{refl}
use mir.Syntax.{w64}
use Rattle.laws.specs.Signed.{ok-back}
use Rattle.format.specs.Settle.{held_fits}
use Rattle.format.proofs.raw.I64Raw.with_sign.Goals as goal

pub with_sign-requires : goal.with_sign-requires
with_sign-requires c = let f = c.args._format in held_fits f.width c.args.neg f.one_of_four refl c.requires

pub returns : goal.returns
returns c = ok-back w64 c.with_sign.result c.with_sign.type_inv ∙ c.with_sign.ensures
