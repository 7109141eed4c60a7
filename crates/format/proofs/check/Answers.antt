-- `format::check` meets its promise: the width goes first. Assumes nothing.
use Rattle.std.proofs.Common.{arith}
use Rattle.std.proofs.Math.Path.{refl}
use Rattle.format.specs.Meaning.{named}
use Rattle.format.specs.Fault.{fault-width, fault-frac, fault-none}
use Rattle.format.specs.Checked.{checked-fault, checked-none}
use Rattle.format.proofs.check.Goals as goal

pub returns-then-not-is_width : goal.returns-then-not-is_width
unfolding named
returns-then-not-is_width c = checked-fault _ _ (fault-width c.args.width c.args.frac c.is_width.ensures (search)) (λ z. omega arith)

pub returns-then-width-frac : goal.returns-then-width-frac
unfolding named
returns-then-width-frac c = checked-fault _ _ (fault-frac c.args.width c.args.frac c.is_width.ensures (search) (search)) (λ z. omega arith)

pub returns : goal.returns
returns c = checked-none _ _ (fault-none c.args.width c.args.frac c.is_width.ensures (search) (search)) refl
