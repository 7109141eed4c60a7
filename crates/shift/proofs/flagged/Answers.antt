-- `shift::flagged` meets its contract: in the overflowing manner the count decides, in the others nothing does. Assumes nothing.
use Rattle.std.proofs.Common.{sym, ◌∙◌}
use Rattle.std.proofs.lemmas.Bool.{false≢true}
use Rattle.shift.specs.Refusals.{flag-overflowing, flag-clear}
use Rattle.shift.proofs.flagged.Goals as goal
use Rattle.shift.proofs.flagged.Goals.{in-Overflowing, in_default}

pub returns-then-matches : goal.returns-then-matches
returns-then-matches c = elim c.match-matches.branch [
  | in-Overflowing w ↦ flag-overflowing _ _ w.in-Overflowing.is
  | in_default w ↦ absurd (false≢true (sym w.matches-is ∙ c.if-matches.true))
]

pub returns-else-matches : goal.returns-else-matches
returns-else-matches c = elim c.match-matches.branch [
  | in-Overflowing w ↦ absurd (false≢true (sym c.if-matches.false ∙ w.matches-is))
  | in_default w ↦ w.matches-is ∙ flag-clear _ _ w.in_default.not-Overflowing
]
