-- `fraction::digits` meets its contract. The invariant: the text, before the digits of what is left, is the whole text, and where nothing
-- is left it is that but for a last zero; and the digits that are left to write are enough for what is left. The measure is how many
-- those are at most. Assumes nothing.
use Rattle.std.proofs.Common.{◌≡◌, ◌++◌, ◌+◌, ◌-◌, ◌^◌, ◌≤◌, ◌<◌, map}
use Rattle.decimal.specs.Meaning.{byte_of, fraction_by}
use Rattle.decimal.specs.Laid.{laid}
use Rattle.decimal.specs.Layout.{Ends}
use Rattle.decimal.proofs.Steps.{Last}
use Rattle.decimal.proofs.fraction.digits.Given as goal

abbrev pub invariant-loop-rest : goal.invariant-loop-rest
invariant-loop-rest l = record {
  start : l.text.start ≡ l.initial.text.start;
  low : l.initial.text.end ≤ l.text.end;
  high : l.text.end ≤ l.initial.text.end + l.frac + 1;
  word : l.rest < 2 ^ 64;
  ends : Ends (l.initial.text.end + l.frac - l.text.end) (2 ^ 64) l.rest;
  more : (l.rest ≡ 0 → ⊥) → laid l.text ++ map byte_of (fraction_by (2 ^ 64) (l.initial.text.end + l.frac - l.text.end) l.rest)
      ≡ laid l.initial.text ++ map byte_of (fraction_by (2 ^ 64) l.frac l.fraction);
  last : l.rest ≡ 0 → Last (laid l.text) (laid l.initial.text ++ map byte_of (fraction_by (2 ^ 64) l.frac l.fraction));
}

abbrev pub decreases-loop-rest : goal.decreases-loop-rest
decreases-loop-rest l = l.initial.text.end + l.frac - l.text.end
