-- `scan::reader::Reader::exp_run` meets its contract. The invariant: what is left of the text, from this exponent, comes to what it comes to from
-- the start. Assumes nothing.
use Rattle.std.proofs.Common.{◌∙◌, sym}
use Rattle.std.proofs.lemmas.Result.{err_from_is_err_and}
use Rattle.exponent.specs.Exponent.{exp-bound}
use Rattle.scan.specs.Found.{written_of, exp-begin, exp-next, exp-stop, exp-over, finds-exp-end}
use Rattle.scan.proofs.reader.Reader.exp_run.Goals as goal

pub loop-b-init : goal.loop-b-init
loop-b-init c =
    let s = c.args.self in
    (c.requires.1.small, exp-begin c.args.text.now c.args.from s.skip s.radix c.args.p)

pub returns-in_err-e : goal.returns-in_err-e
unfolding written_of
returns-in_err-e c =
    let s = c.args.self in
    let l = c.loop-b in
    let p = err_from_is_err_and c.from_residual.result c.from_residual.ensures.1 in
    rw (p.1, p.2)
    (exp-stop s.skip s.radix _ l.b-index (written_of c.args.text.now c.args.p) l.seen l.e l.invariant.1 c.args.text.now c.loop-b-test.true
    c.exp_step.ensures c.in_err-e.was)

pub loop-b-preserved : goal.loop-b-preserved
unfolding written_of
loop-b-preserved c =
    let s = c.args.self in
    let l = c.loop-b in
    let t = c.exp_step.ensures in
    let on = c.in_ok-e.was in (
      exp-bound s.skip s.radix l.seen c.args.p.down l.e _ l.invariant.0 (sym on ∙ t),
      exp-next s.skip s.radix _ l.b-index (written_of c.args.text.now c.args.p) l.seen l.e l.invariant.1 c.loop-b-test.true t on,
    )

pub returns : goal.returns
returns c =
    let s = c.args.self in
    let l = c.loop-b in
    let t = c.args.text.now in
    finds-exp-end t c.args.p c.requires.1 l.seen l.e l.invariant.0 c.exp_end.ensures
    (exp-over s.skip s.radix _ l.b-index (written_of t c.args.p) l.seen l.e l.invariant.1 c.loop-b-test.false)
