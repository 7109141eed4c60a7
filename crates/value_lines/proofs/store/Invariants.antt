-- `value_lines::store` meets its contract. The loop's invariant: as many values stand in the list as came. Assumes nothing.
use Rattle.std.proofs.Common.{length, map}
use Rattle.value_lines.specs.Held.{Held}
use Rattle.value_lines.specs.Meaning.{values_of, line_number, raw_at, number_at}
use Rattle.value_lines.proofs.store.Given as goal

abbrev pub invariant-loop-n : goal.invariant-loop-n
invariant-loop-n l = record {
  lines-hold : Held (map line_number (values_of l.file)) (length l.yielded) l.initial.lines l.lines;
  raws-hold : Held (map raw_at (values_of l.file)) (length l.yielded) l.initial.raws l.raws;
  answers-hold : Held (map number_at (values_of l.file)) (length l.yielded) l.initial.answers l.answers;
}
