-- `Number::scaled` meets its contract: no digit is cut (`whole-done`), or one is (`part-done`). Assumes nothing.
use Rattle.std.proofs.Common.{ap, ◌∙◌, ℕ, take}
use Rattle.grammar.specs.Naturals.{nat_of}
use Rattle.fold.specs.Fold.{fold_of}
use Rattle.fold.specs.Body.{digits_left}
use Rattle.bits.specs.Bits.{whole-done, part-done}
use Rattle.bits.proofs.Number.scaled.Goals as goal

pub returns-then-down-up : goal.returns-then-down-up
returns-then-down-up c =
    let s = c.args.self.now in
    let ds = digits_left s.digits in
    whole-done ds s.count s.width c.args.up c.args.down s.whole c.if-down-up.true
    (c.number.ensures.value ∙ ap (λ (m : ℕ). fold_of (nat_of m (take s.count ds))) c.power.ensures)
    c.scaled.ensures

pub returns : goal.returns
returns c =
    let s = c.args.self.now in
    part-done (digits_left s.digits) s.count s.width c.args.up c.args.down s.whole c.if-down-up.false c.part.ensures
