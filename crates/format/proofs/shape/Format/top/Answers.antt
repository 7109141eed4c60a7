-- `Format::top` meets its contract: two halves make 2^W, and one less fits a word. Assumes nothing.
use Rattle.std.proofs.Common.{arith, ◌-◌, pow_pos}
use Rattle.format.specs.Fault.{width-bounds, halves, half-word}
use Rattle.format.proofs.shape.Format.top.Goals as goal

pub overflow_sub-result : goal.overflow_sub-result
overflow_sub-result c = omega (arith, c.half-half.ensures, pow_pos (c.args.self.width - 1))

pub overflow_add-result : goal.overflow_add-result
overflow_add-result c =
    let w = c.args.self.width in
    let b = width-bounds w c.args.self.one_of_four in
    omega (arith, c.half-half.ensures, half-word w (omega arith))

pub returns : goal.returns
returns c =
    let w = c.args.self.width in
    let b = width-bounds w c.args.self.one_of_four in
    omega (arith, c.half-half.ensures, halves w (omega arith), pow_pos (w - 1))
