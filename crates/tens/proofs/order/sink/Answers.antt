-- `order::sink` meets its contract. The invariant: what the zeros that are left make of the rest is what all make of the start. Assumes nothing.
use Rattle.std.proofs.Common.{◌≡◌, ◌∙◌, sym, ap, ℕ, ◌+◌, ◌-◌, ◌*◌, ◌^◌, ◌≤◌, arith}
use Rattle.wide.specs.Meaning.{value_of}
use Rattle.tens.specs.Order.{sink_of, sink-past, sink-next, low-alone, low-less}
use Rattle.tens.proofs.order.sink.Goals as goal

pub returns-then-rest-gt0 : goal.returns-then-rest-gt0
returns-then-rest-gt0 c =
    let l = c.loop in
    let far : 2 ^ 64 ≤ value_of l.rest = omega (arith, c.if-rest-gt0.true) in
    sym (sink-past (value_of l.rest) (2 ^ 64) (c.args.zeros - l.counter) (omega arith) far) ∙ l.invariant

pub loop-preserved : goal.loop-preserved
loop-preserved c =
    let l = c.loop in
    let none : l.rest.high ≡ 0 = omega (arith, c.if-rest-gt0.false) in
    let fewer : c.args.zeros - (l.counter + 1) ≡ c.args.zeros - l.counter - 1 = omega arith in
    ap (λ (z : ℕ). sink_of z (value_of c.mul-rest.result) (2 ^ 64)) fewer
    ∙ ap (λ (n : ℕ). sink_of (c.args.zeros - l.counter - 1) n (2 ^ 64)) (c.mul-rest.ensures ∙ ap (λ (n : ℕ). n * 10) (low-alone l.rest.low none))
    ∙ sym (sink-next (value_of l.rest) (2 ^ 64) (c.args.zeros - l.counter) (omega arith) (low-less none (omega arith)))
    ∙ l.invariant

pub returns : goal.returns
unfolding sink_of
returns c =
    let l = c.loop in
    let none : c.args.zeros - l.counter ≡ 0 = omega arith in
    sym (ap (λ (n : ℕ). sink_of n (value_of l.rest) (2 ^ 64)) none) ∙ l.invariant
