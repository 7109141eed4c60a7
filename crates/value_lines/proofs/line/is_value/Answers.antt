-- `value_lines::line::is_value` meets its contract: an empty line, a `#` first, or neither. Assumes nothing.
use Rattle.std.proofs.Common.{arith}
use Rattle.value_lines.specs.Lines.{value_none, value-hash, value-other}
use Rattle.value_lines.proofs.line.is_value.Goals.{in_default, in-empty, in-empty-2}
use Rattle.value_lines.proofs.line.is_value.Goals as goal

pub returns : goal.returns
returns c =
    elim c.if-matches.branch [
      | in_default w ↦ rw w.matches-is (value-other _ w.in_default.len_at_least (omega arith))
      | in-empty w ↦ rw w.matches-is (value_none _ w.in-empty.len_below)
      | in-empty-2 w ↦ rw w.matches-is (value-hash _ w.in-empty.len_at_least (omega arith))
    ]
