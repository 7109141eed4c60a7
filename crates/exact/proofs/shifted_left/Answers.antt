-- `exact::shifted_left` meets its contract: the magnitude is scaled, the sign stays. Assumes nothing.
use mathlib.Core.Path.{◌∙◌, ap}
use Prim.Native.Nat.{◌^◌}
use Rattle.format.specs.Meaning.{with_sign}
use Rattle.exact.specs.Signs.{scaled_sign}
use Rattle.exact.proofs.shifted_left.Goals as goal

pub returns : goal.returns
returns c =
    let a = c.args in
    c.new.ensures ∙ ap (with_sign a.x.neg) c.scaled.ensures ∙ scaled_sign a.x.neg a.x.size (2 ^ a.k)
