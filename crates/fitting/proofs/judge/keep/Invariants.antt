-- The loop of `fitting::judge::keep`: the first i taps hold the first i raws, the others are as they were lent. Assumes nothing.
use Rattle.std.proofs.Common.{take}
use Rattle.value_lines.specs.Held.{Held}
use Rattle.fitting.proofs.judge.keep.Given as goal

abbrev pub invariant-loop-i : goal.invariant-loop-i
invariant-loop-i l = Held (take l.values l.raws) l.i l.initial.taps l.taps
