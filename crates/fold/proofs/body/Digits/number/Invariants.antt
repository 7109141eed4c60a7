-- `Digits::number` meets its contract. The invariant: so many digits are taken, and the number is what they make. Assumes nothing.
use Rattle.std.proofs.Common.{◌≡◌, take, drop}
use Rattle.grammar.specs.Naturals.{nat_of}
use Rattle.fold.specs.Fold.{fold_of}
use Rattle.fold.specs.Body.{digits_left}
use Rattle.fold.proofs.body.Digits.number.Given as goal

abbrev pub invariant-loop : goal.invariant-loop
invariant-loop l =
    (l.number ≡ fold_of (nat_of l.radix (take l.counter (digits_left l.fn.self)))) × (digits_left l.self ≡ drop l.counter (digits_left l.fn.self))
