-- `Folded::times` meets its contract: past 2^64 a number stays there (`times-done`). Assumes nothing.
use Rattle.std.proofs.Common.{refl, arith}
use Rattle.fold.specs.Fold.{times-done}
use Rattle.fold.proofs.Folded.times.Goals as goal

pub returns-then-self : goal.returns-then-self
returns-then-self c =
    let a = c.args in
    times-done a.self a.m a.d c.add-sum.result.high c.requires (omega arith) (omega arith) (rw c.if-self.true refl)

pub returns-else-self : goal.returns-else-self
returns-else-self c =
    let a = c.args in
    times-done a.self a.m a.d c.add-sum.result.high c.requires (omega arith) (omega arith) (rw c.if-self.false refl)
