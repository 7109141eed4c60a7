-- `to_float::encode::Encoder::place` meets its contract: the place is not negative. Assumes nothing.
use native.Mathlib.Omega.{arith}
use Rattle.float.specs.Formats.{frac_within}
use Rattle.to_float.specs.Encoding.{roomy-least}
use Rattle.to_float.proofs.encode.Encoder.place.Goals as goal

pub overflow_sub-result : goal.overflow_sub-result
overflow_sub-result c = omega (arith, c.least.ensures, roomy-least _ _ c.args.self.room, frac_within _ _ c.args.self.format.one_of_four c.args.self.format.within)

pub overflow_sub-result-2 : goal.overflow_sub-result-2
overflow_sub-result-2 c = omega (arith, c.least.ensures, roomy-least _ _ c.args.self.room, frac_within _ _ c.args.self.format.one_of_four c.args.self.format.within)
