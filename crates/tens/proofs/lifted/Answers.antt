-- `tens::lifted` meets its contract. The invariant: the number with so many zeros. From 64 zeros on only whether it is 0 is left (`lift-far`).
-- Assumes nothing.
use Rattle.std.proofs.Common.{◌∙◌, ap, arith}
use Rattle.fold.specs.Fold.{fold_of, folded_value}
use Rattle.tens.specs.Tens.{lift-far, lift-next}
use Rattle.tens.proofs.lifted.Goals as goal

pub returns-then-zeros-ge-ALL_TURNS : goal.returns-then-zeros-ge-ALL_TURNS
returns-then-zeros-ge-ALL_TURNS c = c.scaled.ensures ∙ lift-far (folded_value c.args.x) c.args.zeros c.if-zeros-ge-ALL_TURNS.true

pub loop-init : goal.loop-init
loop-init c = c.requires ∙ ap fold_of (omega arith)

pub loop-preserved : goal.loop-preserved
loop-preserved c = lift-next (folded_value c.args.x) c.loop.counter c.loop.invariant c.times-number.ensures
