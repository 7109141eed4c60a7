-- `units::int` meets its contract: 0 without integer bits, and else the floor. Assumes nothing.
use Rattle.std.proofs.Common.{◌∙◌, refl, arith}
use Rattle.format.specs.Meaning.{is_width}
use Rattle.units.specs.Units.{int-none, int-some}
use Rattle.units.proofs.int.Goals as goal

-- F is at most a word's
pub invariant_of-floor-clause-one_of_four : goal.invariant_of-floor-clause-one_of_four
unfolding is_width
invariant_of-floor-clause-one_of_four c = refl

pub invariant_of-floor-clause-within : goal.invariant_of-floor-clause-within
invariant_of-floor-clause-within c = omega (arith, c.requires)

pub returns-then-frac-width : goal.returns-then-frac-width
returns-then-frac-width c = int-none _ _ _ c.if-frac-width.true (c.into.ensures ∙ c.of.ensures)

pub returns-else-frac-width : goal.returns-else-frac-width
returns-else-frac-width c = int-some _ _ _ c.if-frac-width.false c.floor.ensures
