-- `Layout::prepend` meets its contract: one byte more at the start. Assumes nothing.
use Rattle.std.proofs.Common.{arith}
use Rattle.decimal.specs.Laid.{laid}
use Rattle.decimal.proofs.Grown.{prepended}
use Rattle.decimal.proofs.layout.Layout.prepend.Goals as goal

pub returns-clause-text : goal.returns-clause-text
unfolding laid
returns-clause-text c = let l = c.args.self.now in prepended l.places.now l.start l.end l.ordered c.args.byte c.requires (omega (arith, l.room, l.inside))
