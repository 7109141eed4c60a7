-- `prefix::group` meets its contract. The invariant: the number so far, with the digits that are left, is the number of all. Assumes nothing.
use Rattle.std.proofs.Common.{◌≡◌, ◌-◌, drop}
use Rattle.tens.specs.Prefix.{lead_from, lead_of}
use Rattle.fold.specs.Body.{digits_left}
use Rattle.tens.proofs.prefix.group.Given as goal

abbrev pub invariant-loop : goal.invariant-loop
invariant-loop l =
    (lead_from (l.count - l.counter) (drop l.counter (digits_left l.fn.digits)) l.value ≡ lead_of l.count (digits_left l.fn.digits))
    × (digits_left l.digits ≡ drop l.counter (digits_left l.fn.digits))
