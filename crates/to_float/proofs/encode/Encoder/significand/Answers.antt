-- `to_float::encode::Encoder::significand` meets its contract: the digits moved up, or rounded. Assumes nothing.
use mathlib.Core.Path.{◌∙◌, sym}
use native.Mathlib.Omega.{arith}
use Prim.Native.Nat.{◌-◌}
use lib.Pow.{shl_exact}
use Rattle.float.specs.Scaled.{scaled-few, scaled-many}
use Rattle.to_float.proofs.encode.Encoder.significand.Goals as goal

pub returns-then-digits-self : goal.returns-then-digits-self
returns-then-digits-self c =
    let a = c.args in
    let up = a.self.binary.precision - a.digits in
    shl_exact a.digits up 64 c.requires.high (omega (arith, a.self.binary.small.most, c.requires.most))
    ∙ sym (scaled-few _ _ _ c.if-digits-self.true)

pub returns : goal.returns
returns c = c.nearest.ensures ∙ sym (scaled-many _ _ _ (omega arith))
