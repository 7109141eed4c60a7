-- `order::sink` meets its contract. The invariant: what the zeros that are left make of the rest is what all make of the start. Assumes nothing.
use Rattle.std.proofs.Common.{◌≡◌, ◌-◌, ◌^◌}
use Rattle.wide.specs.Meaning.{value_of}
use Rattle.tens.specs.Order.{sink_of}
use Rattle.tens.proofs.order.sink.Given as goal

abbrev pub invariant-loop : goal.invariant-loop
invariant-loop l = sink_of (l.zeros - l.counter) (value_of l.rest) (2 ^ 64) ≡ sink_of l.zeros (value_of l.fn.start) (2 ^ 64)
