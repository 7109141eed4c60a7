-- `scan::plain` meets its contract: the sign, if there is one, then the digits. Assumes nothing.
use Rattle.std.proofs.Common.{rules}
use Rattle.scan.specs.Parts.{plain-empty, plain-plus, plain-minus, plain-digits}
use Rattle.scan.proofs.plain.Goals.{in_default-via-then-text-lt1, in_default-via-else-text-lt1+in_default-1}
use Rattle.scan.proofs.plain.Goals as goal

pub returns-in-43 : goal.returns-in-43
returns-in-43 c = search (rules, plain-plus)

pub returns-in-45 : goal.returns-in-45
returns-in-45 c = search (rules, plain-minus)

pub returns-in_default : goal.returns-in_default
returns-in_default c =
    elim c.in_default.branch [
      | in_default-via-then-text-lt1 w ↦ search (rules, plain-empty)
      | in_default-via-else-text-lt1+in_default-1 w ↦ search (rules, plain-digits)
    ]
