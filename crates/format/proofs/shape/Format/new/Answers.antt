-- `Format::new` meets its contract: the check's refusal, or what no fault tells. Assumes nothing.
use Rattle.std.proofs.lemmas.Result.{err_from_is_err_and}
use Rattle.std.proofs.Math.Path.{refl}
use Rattle.format.specs.Fault.{fault-free}
use Rattle.format.specs.Checked.{fault-checked, none-checked}
use Rattle.format.proofs.shape.Format.new.Goals as goal

pub returns-in_err-check-clause-err : goal.returns-in_err-check-clause-err
returns-in_err-check-clause-err c =
    let a = fault-checked tt c.in_err-check.ensures in
    let p = err_from_is_err_and c.from_residual.result c.from_residual.ensures.1 in
    rw (p.1, p.2) (record { fault = a.0; named_is = a.1 })

pub invariant_of-result : goal.invariant_of-result
invariant_of-result c =
    let a = fault-free c.args.width c.args.frac (none-checked tt c.in_ok-check.ensures).0 in
    record { one_of_four = a.0; within = a.1 }

pub returns-clause-ok : goal.returns-clause-ok
returns-clause-ok c = record { free = (none-checked tt c.in_ok-check.ensures).0; width_is = refl; frac_is = refl }
