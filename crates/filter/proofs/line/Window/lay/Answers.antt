-- `Window::lay` meets its contract: the line is what was copied to the end. Assumes nothing.
use Rattle.std.proofs.Common.{◌∙◌, ap, arith, take, drop, length, length-take-le}
use Rattle.filter.specs.Meaning.{most_taps}
use Rattle.filter.specs.Window.{laid}
use Rattle.filter.proofs.line.Window.lay.Goals as goal

pub returns : goal.returns
returns c =
    let copied = c.copy_from_slice.ensures.after in
    let old = c.self.inside.places in
    let front = length-take-le most_taps old (omega (arith, c.self.told)) in
    laid (take most_taps old) c.copy_from_slice.new.self (drop most_taps (drop most_taps old)) front (ap length copied ∙ c.told-line) ∙ copied
