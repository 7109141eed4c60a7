-- `scan::reader::Reader::exponent` meets its contract: the sign, if there is one, then the digits. Assumes nothing.
use Rattle.std.proofs.Common.{◌∙◌, sym, ap, subst, refl, rules, Bor}
use Rattle.std.specs.Prelude.{◌≡◌, Option, ℕ, get_or, IfSome}
use Rattle.std.specs.Option.{is_some}
use Rattle.scan.specs.Found.{inside, byte-at, past, exp-nothing, exp-plus, exp-minus, exp-bare}
use Rattle.scan.proofs.reader.Reader.exponent.Goals.{in_default-via-in-Some+in_default, in_default-via-in_default}
use Rattle.scan.proofs.reader.Reader.exponent.Goals as goal

pub returns-in-Some-eq43 : goal.returns-in-Some-eq43
returns-in-Some-eq43 c =
    let s = c.args.self in
    let w = c.in-Some-eq43 in
    let l = w.ensures.lookup in
    exp-plus c.args.text.now c.args.from s.skip s.radix c.args.p (inside l.0) (sym (byte-at c.args.text.now c.args.from l.0 l.1) ∙ w.field-0-test) refl c.exp_run.ensures

pub returns-in-Some-eq45 : goal.returns-in-Some-eq45
returns-in-Some-eq45 c =
    let s = c.args.self in
    let w = c.in-Some-eq45 in
    let l = w.ensures.lookup in
    exp-minus c.args.text.now c.args.from s.skip s.radix c.args.p (inside l.0) (sym (byte-at c.args.text.now c.args.from l.0 l.1) ∙ w.field-0-test) refl
    c.exp_run-in-Some-eq45.ensures

pub returns-in_default : goal.returns-in_default
returns-in_default c =
    let s = c.args.self in
    let t = c.args.text.now in
    let from = c.args.from in
    let l = c.get.ensures.lookup in
    elim c.in_default.branch [
      | in_default-via-in-Some+in_default w ↦
          let h = ap is_some (sym w.in_default.is) ∙ l.0 in
          let b = byte-at t from h (subst (λ (o : Option (Bor ℕ)). IfSome o (λ x. x.now ≡ get_or t from x.now)) w.in_default.is l.1) in
          exp-bare t from s.skip s.radix c.args.p (inside h) (λ e. let k : w.in_default.field-0.now ≡ 43 = b ∙ e in search rules)
          (λ e. let k : w.in_default.field-0.now ≡ 45 = b ∙ e in search rules) c.exp_run-in_default.ensures
      | in_default-via-in_default w ↦ exp-nothing t from s.skip s.radix c.args.p (past (ap is_some (sym w.in_default.is) ∙ l.0)) c.exp_run-in_default.ensures
    ]
