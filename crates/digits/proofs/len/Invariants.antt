-- `digits::len` meets its contract. The invariant: the digits counted and those of what is left make up the digits.
-- Assumes nothing.
use Rattle.std.specs.Prelude.{◌≡◌, ◌+◌, ◌≤◌, length, drop}
use Rattle.digits.specs.Meaning.{digits_of}
use Rattle.digits.proofs.len.Given as goal

abbrev pub invariant-loop-b : goal.invariant-loop-b
invariant-loop-b l = (l.digits ≤ l.b-index) × (l.digits + length (digits_of (drop l.b-index l.view)) ≡ length (digits_of l.view))
