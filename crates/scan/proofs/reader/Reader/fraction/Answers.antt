-- `scan::reader::Reader::fraction` meets its contract: the run, then the byte in front of which it ended. Assumes nothing.
use Rattle.std.proofs.Common.{◌∙◌, sym, ap, subst, arith}
use mathlib.Core.Bool.{true, true≢false}
use Rattle.grammar.specs.Class.{class_of}
use Rattle.scan.specs.Found.{inside, byte-at, past, whole_of, unmarked_of, Ready}
use Rattle.scan.specs.Parts.{part_end, part-after, before_mark, run-to, frac-ready, frac-same}
use Rattle.scan.proofs.reader.Reader.fraction.Goals as goal

pub after_run-requires : goal.after_run-requires
after_run-requires c =
    let a = c.args in
    let s = a.self in (
      omega (arith, inside c.in-Some.ensures.lookup.0),
      subst (Ready c.args.text.now) (sym c.new-p.ensures) (frac-ready c.args.text.now a.from s.radix s.skip c.run_at-run.ensures c.requires.0 s.legal a.neg a.whole c.requires.1),
    )

pub returns-in_default : goal.returns-in_default
returns-in_default c =
    let a = c.args in
    let s = a.self in
    let t = c.args.text.now in
    let run = c.run_at-run.ensures in
    part_end t a.from s.radix s.skip s.legal true (whole_of t a.neg a.whole)
    (before_mark a.neg a.whole c.run_at-run.result)
    (frac-ready t a.from s.radix s.skip run c.requires.0 s.legal a.neg a.whole c.requires.1)
    (run-to t a.from s.radix s.skip run) (frac-same t a.from s.radix s.skip run a.neg a.whole) (past c.in_default.ensures.lookup.0) (c.unmarked.ensures ∙ ap unmarked_of c.new-p.ensures)

pub returns : goal.returns
returns c =
    let a = c.args in
    let s = a.self in
    let t = c.args.text.now in
    let run = c.run_at-run.ensures in
    let l = c.in-Some.ensures.lookup in
    let b = byte-at t c.run_at-run.result.to l.0 l.1 in
    part-after t a.from s.radix s.skip s.legal true (whole_of t a.neg a.whole)
    (before_mark a.neg a.whole c.run_at-run.result)
    (frac-ready t a.from s.radix s.skip run c.requires.0 s.legal a.neg a.whole c.requires.1)
    (run-to t a.from s.radix s.skip run) (frac-same t a.from s.radix s.skip run a.neg a.whole) (inside l.0)
    (λ z. absurd (true≢false z)) (c.class_of.ensures ∙ ap (class_of s.radix) b) (rw c.new-p.ensures at c.after_run.ensures)
