-- `results::add` meets its contract, by equal and unequal signs. Assumes nothing.
use Rattle.std.proofs.Common.{◌∙◌, sym, ◌+◌, ◌*◌, ◌^◌, ltb-true, ltb-false, arith}
use Rattle.results.specs.Results.{add_same, add_apart, add_turned}
use Rattle.results.proofs.add.Goals as goal

pub returns-then-x-y : goal.returns-then-x-y
returns-then-x-y c =
    let x = c.args.x in
    let y = c.args.y in
    c.new.ensures
    ∙ add_same x.neg y.neg (x.high * 2 ^ 64 + x.low) y.size c.if-x-y.true (omega (arith, c.add.ensures, c.size-a.ensures, c.from-b.ensures))

pub returns-then-less : goal.returns-then-less
returns-then-less c =
    let x = c.args.x in
    let y = c.args.y in
    let below = ltb-true _ _ (sym c.less.ensures ∙ c.if-less.true) in
    c.new-then-less.ensures
    ∙ add_turned x.neg y.neg (x.high * 2 ^ 64 + x.low) y.size c.if-x-y.false (omega (arith, below, c.size-a.ensures, c.from-b.ensures))
    (omega (arith, c.sub.ensures, c.size-a.ensures, c.from-b.ensures))

pub returns-else-less : goal.returns-else-less
returns-else-less c =
    let x = c.args.x in
    let y = c.args.y in
    let within = ltb-false _ _ (sym c.less.ensures ∙ c.if-less.false) in
    c.new-else-less.ensures
    ∙ add_apart x.neg y.neg (x.high * 2 ^ 64 + x.low) y.size c.if-x-y.false (omega (arith, within, c.size-a.ensures, c.from-b.ensures))
    (omega (arith, c.sub-else-less.ensures, c.size-a.ensures, c.from-b.ensures))
