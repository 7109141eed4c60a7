-- Before each turn the first i places hold the entries of the first i values, and the others are as they were lent;
-- there are no more places than the arrays have. Assumes nothing.
use Rattle.std.proofs.Common.{◌≤◌, map}
use Rattle.filter.specs.Meaning.{most_taps}
use Rattle.value_lines.specs.Held.{Held}
use Rattle.value_lines.specs.Meaning.{values_of}
use Rattle.fitting_list.specs.Meaning.{entry_of}
use Rattle.fitting_list.proofs.read_list.Given as goal

abbrev pub invariant-loop-i : goal.invariant-loop-i
invariant-loop-i l = record {
  few : l.i-end ≤ most_taps;
  stored : Held (map entry_of (values_of l.file)) l.i l.initial.entry-items l.entry-items;
}
