-- `float::pattern::Binary::magnitude` meets its contract: an infinity, or the significand at its place, rounded. Assumes nothing.
use Rattle.std.proofs.Common.{arith, ◌/◌, ◌-◌, ◌^◌, mod-lt, pow_pos, pow_mono}
use Rattle.float.specs.Formats.{frac_within}
use Rattle.float.specs.Parts.{folds-infinite, folds-finite}
use Rattle.float.proofs.pattern.Binary.magnitude.Goals as goal

pub returns-then-e-last : goal.returns-then-e-last
returns-then-e-last c = folds-infinite _ _ c.biased-e.ensures c.last.ensures _ c.if-e-last.true

-- E is below 2^11, and F at most 64
pub overflow_add-format : goal.overflow_add-format
overflow_add-format c =
    let b = c.args.self in
    let frac = frac_within _ _ c.args.format.one_of_four c.args.format.within in
    let below = mod-lt (c.args.pattern / 2 ^ (b.precision - 1)) (pow_pos b.field) in
    let most = pow_mono {i = b.field} {j = 11} b.small.field-most in
    record { fits = omega (arith, frac, c.biased-e.ensures, below, most, c.saturating_sub-place.ensures) }

pub returns : goal.returns
returns c =
    folds-finite _ _ _ c.biased-e.ensures c.trailing.ensures c.last.ensures
    c.if-e-last.false
    c.significand-m.ensures c.saturating_sub-place.ensures c.least.ensures c.scaled.ensures
