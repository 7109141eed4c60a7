-- `to_float::encode::Encoder::of_magnitude` meets its contract: the place and the significand make the sum that the pattern is. Assumes nothing.
use mathlib.Core.Path.{◌∙◌}
use native.Mathlib.Omega.{arith}
use Rattle.float.specs.Formats.{frac_within}
use Rattle.to_float.specs.Encoding.{digits-of}
use Rattle.to_float.proofs.Encodes.{sum_fits, encoded, encoded-zero}
use Rattle.to_float.proofs.encode.Encoder.of_magnitude.Goals as goal

pub returns-then-size-eq0 : goal.returns-then-size-eq0
returns-then-size-eq0 c = encoded-zero _ _ _ _ c.if-size-eq0.true

pub significand-requires : goal.significand-requires
significand-requires c = digits-of c.args.size (omega arith) c.ranges.size.fits

pub overflow_add-result : goal.overflow_add-result
overflow_add-result c =
    let digits = digits-of c.args.size (omega arith) c.ranges.size.fits in
    record { fits = sum_fits _ _ _ _ _ c.args.self.room digits (frac_within _ _ c.args.self.format.one_of_four c.args.self.format.within) (c.from-place.ensures ∙ c.place.ensures) c.significand.ensures }

pub returns : goal.returns
returns c =
    let digits = digits-of c.args.size (omega arith) c.ranges.size.fits in
    encoded _ _ _ _ _ c.args.self.room digits (frac_within _ _ c.args.self.format.one_of_four c.args.self.format.within) (c.from-place.ensures ∙ c.place.ensures) c.significand.ensures
