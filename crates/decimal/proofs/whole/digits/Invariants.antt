-- `whole::digits` meets its contract. The invariant: the digits of what is left, before the text, are those of n before the text that
-- there was; each digit takes one place. The measure is what is left. Assumes nothing.
use Rattle.std.proofs.Common.{◌+◌, ◌≡◌, ◌++◌, ◌≤◌, length}
use Rattle.decimal.specs.Meaning.{whole_text}
use Rattle.decimal.specs.Laid.{laid}
use Rattle.decimal.proofs.whole.digits.Given as goal

abbrev pub invariant-loop-rest : goal.invariant-loop-rest
invariant-loop-rest l = record {
  less : l.rest ≤ l.n;
  room : l.text.start + length (whole_text l.n) ≡ l.initial.text.start + length (whole_text l.rest);
  text : whole_text l.rest ++ laid l.text ≡ whole_text l.n ++ laid l.initial.text;
}

abbrev pub decreases-loop-rest : goal.decreases-loop-rest
decreases-loop-rest l = l.rest
