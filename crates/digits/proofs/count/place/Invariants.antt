-- `digits::count::place` meets its contract. The invariant: the bytes passed and those up to the digit that is wanted in what is left make up the answer.
-- Assumes nothing.
use Rattle.std.specs.Prelude.{◌≡◌, ◌+◌, length, drop}
use Rattle.digits.specs.Meaning.{head_of}
use Rattle.digits.proofs.count.place.Given as goal

abbrev pub invariant-loop-i : goal.invariant-loop-i
invariant-loop-i l = l.i + length (head_of (drop l.i l.run) l.wanted) ≡ length (head_of l.run l.mid)
