-- `run::run_at` meets its contract: the run lies within the text. Assumes nothing.
use Rattle.std.proofs.Common.{arith, drop, length-drop}
use Rattle.run.specs.Run.{len-fits}
use Rattle.run.proofs.run_at.Goals as goal

pub slice_bounds-len-end : goal.slice_bounds-len-end
slice_bounds-len-end c =
    let a = c.args in
    omega (arith, c.run_end-to.ensures, len-fits a.skip a.radix (drop a.from a.text.now), length-drop a.from a.text.now)
