-- `Layout::drop_zero` meets its contract: the last byte is read, and goes or stays. Assumes nothing.
use Rattle.std.proofs.Common.{arith}
use Rattle.decimal.specs.Laid.{laid}
use Rattle.decimal.proofs.Grown.{dropped, kept}
use Rattle.decimal.proofs.layout.Layout.drop_zero.Goals as goal

pub returns-then-self-eq48-clause-text : goal.returns-then-self-eq48-clause-text
unfolding laid
returns-then-self-eq48-clause-text c t b e =
    let l = c.args.self.now in dropped l.places.now l.start l.end l.ordered c.requires (omega (arith, l.room, l.inside)) t b e c.if-self-eq48.true

pub returns-else-self-eq48-clause-text : goal.returns-else-self-eq48-clause-text
unfolding laid
returns-else-self-eq48-clause-text c t b e =
    let l = c.args.self.now in kept l.places.now l.start l.end l.ordered c.requires (omega (arith, l.room, l.inside)) t b e c.if-self-eq48.false
