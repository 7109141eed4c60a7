-- `fraction::scaled` meets its contract: the shift drops what is above 2^64, which is the whole part. Assumes nothing.
use Rattle.std.proofs.Common.{◌∙◌, ◌-◌}
use Rattle.laws.specs.Shifts.{left}
use Rattle.decimal.proofs.Parts.{frac-word, scaled-some}
use Rattle.decimal.proofs.fraction.scaled.Goals as goal

pub returns : goal.returns
returns c =
    let frac = c.args.format.frac in
    c.unbounded_shl.ensures ∙ left 64 c.args.magnitude (64 - frac)
    ∙ scaled-some c.args.magnitude frac (frac-word c.args.format.one_of_four c.args.format.within)

pub overflow_sub-format : goal.overflow_sub-format
overflow_sub-format c = frac-word c.args.format.one_of_four c.args.format.within
