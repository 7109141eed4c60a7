-- `Digits::next` gives the first digit that is left. The invariant: the bytes passed have no digit. Assumes nothing.
use Rattle.std.proofs.Common.{◌≡◌, length}
use Rattle.fold.specs.Body.{digits_left}
use Rattle.fold.proofs.body.DigitsIterator.next.Given as goal

abbrev pub invariant-loop-byte : goal.invariant-loop-byte
invariant-loop-byte l = digits_left l.self ≡ digits_left l.fn.self

abbrev pub decreases-loop-byte : goal.decreases-loop-byte
decreases-loop-byte l = length l.self.rest.now
