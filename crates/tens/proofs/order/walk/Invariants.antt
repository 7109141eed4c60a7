-- `order::walk` meets its contract. The invariant: the digits that are left compare with the rest as all do with the start. Assumes nothing.
use Rattle.std.proofs.Common.{◌≡◌, ◌^◌}
use Rattle.wide.specs.Meaning.{value_of, Words}
use Rattle.fold.specs.Body.{digits_left}
use Rattle.tens.specs.Order.{order_ten}
use Rattle.tens.proofs.order.walk.Given as goal

abbrev pub invariant-loop-digit : goal.invariant-loop-digit
invariant-loop-digit l =
    Words l.rest
    × (order_ten (digits_left l.digit-iterator) (value_of l.rest) (2 ^ 64) ≡ order_ten (digits_left l.fn.digits) (value_of l.fn.start) (2 ^ 64))
