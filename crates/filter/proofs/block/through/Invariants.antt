-- `block::through` meets its contract. The loop's invariant: the first i samples are through. Assumes nothing.
use Rattle.filter.specs.Block.{SoFar}
use Rattle.filter.proofs.block.through.Given as goal

abbrev pub invariant-loop-i : goal.invariant-loop-i
invariant-loop-i l = SoFar l.taps l.initial.line l.samples l.i l.line l.outputs l.clips l.count
