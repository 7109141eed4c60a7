-- The shift is the floor, and past 63 bits the sign is left (`signed-right`). Assumes nothing.
use Rattle.std.proofs.Common.{ap, ◌∙◌, ℤ, ◌^◌, w64, to_z-of_z}
use Rattle.std.specs.Prelude.{min}
use Rattle.laws.specs.Floor.{floor}
use Rattle.laws.specs.Shifts.{signed-right}
use Rattle.laws.specs.Signed.{ok-back}
use Rattle.convert.proofs.source.I64Source.dropped.Goals as goal

pub returns : goal.returns
returns c =
    let r = c.unbounded_shr in
    ok-back w64 r.result r.type_inv ∙ r.ensures ∙ ap (λ (z : ℤ). floor z (2 ^ min c.args.bits 63)) (to_z-of_z {w = w64} c.ranges.self)
    ∙ signed-right w64 c.args.self c.args.bits c.ranges.self
