-- `Fraction::side` meets its contract: the calls' promises one after another, and the zeros in front by `order-sink`. Assumes nothing.
use Rattle.std.proofs.Common.{rules, ◌∙◌, sym, ap, ℕ, ◌^◌, lit<}
use Rattle.fold.specs.Body.{digits_left}
use Rattle.tens.specs.Digits.{small_all}
use Rattle.tens.specs.Order.{order_ten, sink_of, order-sink}
use Rattle.tens.proofs.Fraction.side.Goals as goal

pub walk-requires : goal.walk-requires
walk-requires c = record { high = search rules; low = search rules }

pub returns : goal.returns
returns c =
    let s = c.args.self.now in
    let ds = digits_left s.digits in
    c.walk.ensures
    ∙ ap (λ (n : ℕ). order_ten ds n (2 ^ 64))
    (c.sink.ensures ∙ ap (λ (n : ℕ). sink_of s.zeros n (2 ^ 64)) c.middle.ensures)
    ∙ sym (order-sink s.zeros ds _ (2 ^ 64) (lit< tt) (small_all ds s.decimal.below))
