-- `units::modulo` meets its contract: below zero what the rest lacks of m, where something is left, and else the rest. Assumes nothing.
use Rattle.std.proofs.Common.{sym, ◌∙◌, true≢false}
use Rattle.units.specs.Units.{modulo-past, modulo-rest}
use Rattle.units.proofs.modulo.Goals as goal
use Rattle.units.proofs.modulo.Goals.{else-x-via-then-x+else-rest-ne0, else-x-via-else-x}

pub returns-then-rest-ne0 : goal.returns-then-rest-ne0
returns-then-rest-ne0 c = modulo-past _ _ c.requires c.if-x.true c.if-rest-ne0.true

pub returns-else-x : goal.returns-else-x
returns-else-x c =
    modulo-rest _ _ c.requires _
    (elim c.else-x.branch [
      | else-x-via-then-x+else-rest-ne0 w ↦ λ t. w.if-rest-ne0.false
      | else-x-via-else-x w ↦ λ t. absurd (true≢false (sym t ∙ w.if-x.false))
    ])
