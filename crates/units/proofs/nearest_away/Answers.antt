-- `units::nearest_away` meets its contract: the quotient, and one more from half on. Assumes nothing.
use Rattle.std.proofs.Common.{arith, ⊎_elim}
use Rattle.units.specs.Units.{away-below, away-above}
use Rattle.units.proofs.nearest_away.Goals as goal

pub returns-in-Less : goal.returns-in-Less
returns-in-Less c = away-below _ _ c.quotient-q.ensures c.in-Less.ensures

pub returns-in-Equal : goal.returns-in-Equal
returns-in-Equal c =
    let h = c.beside_half.ensures in
    away-above _ _ c.quotient-q.ensures (⊎_elim (λ e. omega (arith, rw e at h)) (λ e. omega (arith, rw e at h)) c.in-Equal.is)
