-- `arith::divided` meets its contract: the format first, then the divisor. Assumes nothing.
use Rattle.std.proofs.Common.{arith, sym, ap, ◌∙◌}
use Rattle.std.proofs.lemmas.Result.{err_from_is_err_and}
use Rattle.format.specs.Refusal.{named}
use Rattle.exact.specs.Refusals.{refuses-first, refuses-second, opens-both}
use Rattle.arith.specs.Refusals.{divisor-zero, divisor-some}
use Rattle.arith.proofs.divided.Goals as goal

pub returns-in_err-format-clause-err : goal.returns-in_err-format-clause-err
returns-in_err-format-clause-err g c =
    let p = err_from_is_err_and c.from_residual.result c.from_residual.ensures.1 in
    rw (p.1, p.2) (refuses-first _ c.in_err-format.ensures.err)

pub returns-then-magnitude-eq0-clause-err : goal.returns-then-magnitude-eq0-clause-err
unfolding named
returns-then-magnitude-eq0-clause-err g c =
    let e = divisor-zero (g.R.Raw.kind.number_of c.args.b) (sym c.magnitude.ensures ∙ c.if-magnitude-eq0.true) in
    refuses-second _ c.in_ok-format.ensures.ok.free (λ z. omega (arith, e, z)) (ap named e)

pub returns-clause-ok : goal.returns-clause-ok
returns-clause-ok g c =
    record {
      opens = opens-both _ c.in_ok-format.ensures.ok (sym (divisor-some _ (λ z. c.if-magnitude-eq0.false (c.magnitude.ensures ∙ z))));
      some = omega (arith, c.magnitude.ensures, c.if-magnitude-eq0.false);
    }
