-- `run::rest_end` meets its contract. The invariant: from here the run ends where it ends from the start. Assumes nothing.
use Rattle.std.proofs.Common.{rules, ap, arith, length, length-drop}
use Rattle.std.proofs.lemmas.List.{take_rest}
use Rattle.grammar.specs.Run.{run_more}
use Rattle.run.specs.Run.{run-next, run-stop, run-over}
use Rattle.run.proofs.rest_end.Goals as goal

pub returns-then-not-in_run : goal.returns-then-not-in_run
returns-then-not-in_run c =
    let a = c.args in
    let l = c.loop-i in
    let w = run-stop a.skip a.radix _ l.i c.loop-i-test.true c.in_run.ensures (search rules) l.invariant in
    omega (arith, w, ap (run_more a.skip a.radix) (take_rest a.text.now a.from))

pub loop-i-preserved : goal.loop-i-preserved
loop-i-preserved c = search (rules, run-next)

pub returns : goal.returns
returns c =
    let a = c.args in
    let l = c.loop-i in
    let w = run-over a.skip a.radix _ l.i c.loop-i-test.false l.invariant in
    omega (
      arith,
      w,
      ap (run_more a.skip a.radix) (take_rest a.text.now a.from),
      c.loop-i-test.false,
      l.auto.i-end,
      ap length (take_rest a.text.now a.from),
      length-drop a.from a.text.now,
      c.requires,
    )
