-- `Folded::scaled` meets its contract: below 64 places it is a product, and past them only whether the number is 0 is left (`scale-done`).
use Rattle.std.proofs.Common.{refl}
use Rattle.fold.specs.Fold.{scale-done}
use Rattle.fold.proofs.Folded.scaled.Goals as goal

pub returns-then-self : goal.returns-then-self
returns-then-self c = scale-done c.args.self c.args.k c.if-k-lt64.false refl (rw c.if-self.true refl)

pub returns-else-self : goal.returns-else-self
returns-else-self c = scale-done c.args.self c.args.k c.if-k-lt64.false refl (rw c.if-self.false refl)
