-- `Digits::number` meets its contract. The invariant: so many digits are taken, and the number is what they make. Assumes nothing.
use Rattle.std.proofs.Common.{refl, sym, ◌∙◌}
use Rattle.grammar.specs.Meaning.{nat_from}
use Rattle.fold.specs.Body.{digits_left, number-next, rest-next}
use Rattle.fold.proofs.body.Digits.number.Goals as goal

pub loop-init : goal.loop-init
unfolding nat_from
loop-init c = (c.from-number.ensures, refl)

pub loop-preserved : goal.loop-preserved
loop-preserved c =
    let ds = digits_left c.args.self.now in
    let k = c.loop.counter in
    let next = sym c.loop.invariant.1 ∙ c.in-Some.ensures.steps in
    (number-next ds k next c.args.radix c.requires c.loop.invariant.0 c.times-number.ensures, rest-next ds k next)
