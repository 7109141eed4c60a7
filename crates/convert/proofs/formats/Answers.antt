-- `convert::formats` meets its contract: one law for each way out (`Fault`). Assumes nothing.
use Rattle.std.proofs.Common.{refl, sym}
use Rattle.convert.specs.Fault.{width-from, width-to, frac-from, frac-to, formats-met}
use Rattle.convert.proofs.formats.Goals as goal
use Rattle.convert.proofs.formats.Goals.{then-not-is_width-via-then-not-is_width, then-not-is_width-via-else-not-is_width+then-not-is_width-2}
use Rattle.convert.proofs.formats.Goals.{then-from_width-from_frac-via-then-from_width-from_frac, then-from_width-from_frac-via-else-from_width-from_frac+then-width-frac}

pub returns-then-not-is_width-clause-err : goal.returns-then-not-is_width-clause-err
returns-then-not-is_width-clause-err c = elim c.then-not-is_width.branch [
  | then-not-is_width-via-then-not-is_width w ↦ width-from _ _ _ _ (sym w.if-not-is_width.ensures)
  | then-not-is_width-via-else-not-is_width+then-not-is_width-2 w ↦ width-to _ _ _ _ (sym w.if-not-is_width.ensures) (sym w.if-not-is_width-2.ensures)
]

pub returns-then-from_width-from_frac-clause-err : goal.returns-then-from_width-from_frac-clause-err
returns-then-from_width-from_frac-clause-err c =
    let p = sym c.if-not-is_width.ensures in
    let q = sym c.if-not-is_width-2.ensures in
    elim c.then-from_width-from_frac.branch [
      | then-from_width-from_frac-via-then-from_width-from_frac w ↦ frac-from _ _ _ _ p q w.if-from_width-from_frac.true
      | then-from_width-from_frac-via-else-from_width-from_frac+then-width-frac w ↦
          frac-to _ _ _ _ p q w.if-from_width-from_frac.false w.if-width-frac.true
    ]

pub returns-clause-ok : goal.returns-clause-ok
returns-clause-ok c =
    record {
      free = formats-met _ _ _ _ (sym c.if-not-is_width.ensures) (sym c.if-not-is_width-2.ensures) c.if-from_width-from_frac.false c.if-width-frac.false;
      width_is = refl;
      frac_is = refl;
    }
