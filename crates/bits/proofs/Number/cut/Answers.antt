-- `Number::cut` meets its contract: the digits in front of the cut, the digit that is cut, and those behind it (`cut-done`). Assumes nothing.
use Rattle.std.proofs.Common.{ap, ◌∙◌, ℕ, ◌+◌, ◌*◌, ◌/◌, ◌^◌, List, take, drop, get_or}
use Rattle.grammar.specs.Naturals.{nat_of}
use Rattle.fold.specs.Fold.{fold_of, folded_value}
use Rattle.fold.specs.Body.{digits_left, first-or}
use Rattle.bits.specs.Cut.{cut-done}
use Rattle.bits.proofs.Number.cut.Goals as goal

pub returns : goal.returns
returns c =
    let s = c.args.self.now in
    let ds = digits_left s.digits in
    let head = c.number-head in
    let digit = first-or (digits_left head.new.self) (digits_left c.next.new.self) c.next.result c.next.ensures.steps c.unwrap_or-digit.ensures in
    cut-done ds s.count s.width c.args.at c.args.c s.whole c.requires.0 c.requires.1 c.requires.2
    (head.ensures.value ∙ ap (λ (m : ℕ). fold_of (nat_of m (take c.args.at ds))) c.power.ensures)
    (digit.0 ∙ ap (λ (l : List ℕ). get_or l 0 0) head.ensures.rest, digit.1 ∙ ap (drop 1) head.ensures.rest)
    c.any_nonzero-rest.ensures
    (c.times-whole.ensures ∙ ap (λ (m : ℕ). fold_of (folded_value head.result * m + c.unwrap_or-digit.result / 2 ^ c.args.c)) c.power-2.ensures)
    c.half.ensures
    c.rounded.ensures
