-- The lower half of the residues stands for itself, the upper half for 2^W less. Assumes nothing.
use Rattle.std.proofs.Common.{arith, ◌∙◌, ◌-◌, ◌+◌}
use mir.Syntax.{w64}
use Rattle.laws.specs.Bound.{sfits-in}
use Rattle.laws.specs.Signed.{ok-back}
use Rattle.std.proofs.Math.Bool.{true, false}
use Rattle.format.specs.Meaning.{with_sign}
use Rattle.format.specs.Fault.{width-bounds, halves, half-word}
use Rattle.format.specs.Place.{residue_raw, sign-out, resigned-low, resigned-high, turned}
use Rattle.format.proofs.raw.I64Raw.of_residue.Goals as goal

pub with_sign-requires : goal.with_sign-requires
with_sign-requires c =
    let f = c.args.format in
    let n = c.args.bits in
    let b = half-word f.width (width-bounds f.width f.one_of_four).1 in
    sfits-in w64 (with_sign false n) (omega (arith, c.half.ensures, c.if-bits-half.true, sign-out false n)) (omega (arith, sign-out false n))

pub returns-then-bits-half : goal.returns-then-bits-half
unfolding residue_raw with_sign
returns-then-bits-half c =
    resigned-low c.args.bits c.args.format.width (omega (arith, c.half.ensures))
    (ok-back w64 c.with_sign.result c.with_sign.type_inv ∙ c.with_sign.ensures)

pub with_sign-requires-else-bits-half : goal.with_sign-requires-else-bits-half
with_sign-requires-else-bits-half c =
    let f = c.args.format in
    let w = width-bounds f.width f.one_of_four in
    let n = c.top.result - c.args.bits + 1 in
    sfits-in w64 (with_sign true n) (omega (arith, sign-out true n))
    (omega (arith, c.half.ensures, c.top.ensures, halves f.width (omega arith), half-word f.width w.1, sign-out true n))

pub returns-else-bits-half : goal.returns-else-bits-half
unfolding residue_raw with_sign
returns-else-bits-half c =
    resigned-high c.args.bits c.args.format.width (omega (arith, c.half.ensures))
    (ok-back w64 c.with_sign-else-bits-half.result c.with_sign-else-bits-half.type_inv ∙ c.with_sign-else-bits-half.ensures ∙ turned c.args.bits c.args.format.width c.top.ensures)
