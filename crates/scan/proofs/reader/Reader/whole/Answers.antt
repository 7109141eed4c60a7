-- `scan::reader::Reader::whole` meets its contract: the run, then the byte in front of which it ended. Assumes nothing.
use Rattle.std.proofs.Common.{◌∙◌, sym, ap, subst, refl, arith}
use mathlib.Core.Bool.{false}
use Rattle.grammar.specs.Class.{class_of}
use Rattle.grammar.specs.Meaning.{blank}
use Rattle.scan.specs.Found.{inside, byte-at, past, whole_of, unmarked_of, Ready}
use Rattle.scan.specs.Parts.{part_end, part-after, part-point, whole_parsed, run-to, run-counted, run-start, run-body, whole_ready, whole_is, whole_same}
use Rattle.scan.proofs.reader.Reader.whole.Goals as goal

pub fraction-requires : goal.fraction-requires
fraction-requires c =
    let a = c.args in
    let s = a.self in
    let t = c.args.text.now in
    let run = c.run_at-run.ensures in
    let w = c.in-Some in (
      omega (arith, inside w.ensures.lookup.0),
      record {
        counted = run-counted t a.from s.radix s.skip run;
        start = run-start t a.from s.radix s.skip run;
        next = refl;
        point = sym (byte-at t c.run_at-run.result.to w.ensures.lookup.0 w.ensures.lookup.1) ∙ c.if-b-eq46.true;
        inside = inside w.ensures.lookup.0;
        body = run-body t a.from s.radix s.skip run s.legal;
      },
    )

pub after_run-requires : goal.after_run-requires
after_run-requires c =
    let a = c.args in
    let s = a.self in
    (omega (arith, inside c.in-Some.ensures.lookup.0), subst (Ready c.args.text.now) (sym c.new-p.ensures) (whole_ready c.args.text.now a.from s.radix s.skip c.run_at-run.ensures c.requires s.legal a.neg))

pub returns-in_default : goal.returns-in_default
returns-in_default c =
    let a = c.args in
    let s = a.self in
    let t = c.args.text.now in
    let run = c.run_at-run.ensures in
    part_end t a.from s.radix s.skip s.legal false (blank a.neg)
    (whole_parsed a.neg c.run_at-run.result)
    (whole_ready t a.from s.radix s.skip run c.requires s.legal a.neg)
    (run-to t a.from s.radix s.skip run) (whole_same t a.from s.radix s.skip run a.neg) (past c.in_default.ensures.lookup.0) (c.unmarked.ensures ∙ ap unmarked_of c.new-p.ensures)

pub returns-then-b-eq46 : goal.returns-then-b-eq46
returns-then-b-eq46 c =
    let a = c.args in
    let s = a.self in
    let t = c.args.text.now in
    let run = c.run_at-run.ensures in
    let w = c.in-Some in
    part-point t a.from s.radix s.skip s.legal (blank a.neg)
    (whole_of t a.neg c.run_at-run.result)
    (run-to t a.from s.radix s.skip run) (whole_is t a.from s.radix s.skip run a.neg) (inside w.ensures.lookup.0) (sym (byte-at t c.run_at-run.result.to w.ensures.lookup.0 w.ensures.lookup.1) ∙ c.if-b-eq46.true)
    c.fraction.ensures

pub returns : goal.returns
returns c =
    let a = c.args in
    let s = a.self in
    let t = c.args.text.now in
    let run = c.run_at-run.ensures in
    let l = c.in-Some.ensures.lookup in
    let b = byte-at t c.run_at-run.result.to l.0 l.1 in
    part-after t a.from s.radix s.skip s.legal false (blank a.neg)
    (whole_parsed a.neg c.run_at-run.result)
    (whole_ready t a.from s.radix s.skip run c.requires s.legal a.neg)
    (run-to t a.from s.radix s.skip run) (whole_same t a.from s.radix s.skip run a.neg) (inside l.0)
    (λ z p. c.if-b-eq46.false (b ∙ p)) (c.class_of.ensures ∙ ap (class_of s.radix) b) (rw c.new-p.ensures at c.after_run.ensures)
