-- `Layout::append` meets its contract: one byte more at the end. Assumes nothing.
use Rattle.std.proofs.Common.{arith}
use Rattle.decimal.specs.Laid.{laid}
use Rattle.decimal.proofs.Grown.{appended}
use Rattle.decimal.proofs.layout.Layout.append.Goals as goal

pub returns-clause-text : goal.returns-clause-text
unfolding laid
returns-clause-text c = let l = c.args.self.now in appended l.places.now l.start l.end l.ordered c.args.byte (omega (arith, l.room, c.requires))
