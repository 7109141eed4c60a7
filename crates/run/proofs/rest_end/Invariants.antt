-- `run::rest_end` meets its contract. The invariant: from here the run ends where it ends from the start. Assumes nothing.
use Rattle.std.proofs.Common.{◌≡◌, ◌+◌, drop}
use Rattle.grammar.specs.Run.{run_more}
use Rattle.run.proofs.rest_end.Given as goal

abbrev pub invariant-loop-i : goal.invariant-loop-i
invariant-loop-i l = l.i + run_more l.skip l.radix (drop l.i l.b-items) ≡ run_more l.skip l.radix l.b-items
