-- `to_float::encode::Encoder::encode` meets its contract: the sign is one bit on top. Assumes nothing.
use Rattle.to_float.proofs.Encodes.{with-sign}
use Rattle.to_float.proofs.encode.Encoder.encode.Goals as goal

pub returns-then-neg : goal.returns-then-neg
returns-then-neg c = with-sign _ _ _ _ c.of_magnitude-magnitude.ensures c.if-neg.true c.sign.ensures
