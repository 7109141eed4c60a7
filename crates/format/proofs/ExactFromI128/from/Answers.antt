-- A number of 128 bits is its sign and its magnitude. Assumes nothing.
use Rattle.std.proofs.Common.{◌∙◌, ap, to_z-of_z}
use mir.Syntax.{w128}
use Rattle.format.specs.Meaning.{with_sign}
use Rattle.format.specs.Place.{sign-back}
use Rattle.format.proofs.ExactFromI128.from.Goals as goal

pub returns : goal.returns
returns c =
    c.new.ensures ∙ ap (with_sign _) (c.into.ensures ∙ c.unsigned_abs.ensures.value) ∙ sign-back _ ∙ to_z-of_z {w = w128} c.ranges.n
