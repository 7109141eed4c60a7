-- `Fraction::lead` meets its contract: two groups of digits are 27 (`group-two`). Assumes nothing.
use Rattle.std.proofs.Common.{◌≡◌, ◌∙◌, sym, ap, subst, ℕ, ◌+◌, ◌*◌, ◌^◌, ◌-◌, arith}
use Rattle.wide.specs.Meaning.{value_of}
use Rattle.fold.specs.Body.{digits_left}
use Rattle.tens.specs.Digits.{Small, small_all, small-drop}
use Rattle.tens.specs.Prefix.{lead_of}
use Rattle.tens.specs.Walk.{group-two, group-sum}
use Rattle.tens.proofs.Fraction.lead.Goals as goal

pub group-upper-requires : goal.group-upper-requires
group-upper-requires c =
    let s = c.args.self.now in
    (omega arith, small_all (digits_left s.digits) s.decimal.below)

pub group-lower-requires : goal.group-lower-requires
group-lower-requires c =
    let s = c.args.self.now in
    let ds = digits_left s.digits in
    (omega arith, subst Small (sym c.group-upper.ensures.rest) (small-drop (19 - s.zeros) ds (small_all ds s.decimal.below)))

pub add-requires : goal.add-requires
add-requires c =
    let s = c.args.self.now in
    let ds = digits_left s.digits in
    let upper = c.group-upper.ensures in
    let lower = c.group-lower.ensures.value ∙ ap (lead_of 8) upper.rest in
    omega (arith, c.into.ensures, group-sum ds s.zeros s.decimal.short upper.value lower c.mul.ensures (small_all ds s.decimal.below))

pub returns : goal.returns
returns c =
    let s = c.args.self.now in
    let upper = c.group-upper.ensures in
    let lower = c.group-lower.ensures.value ∙ ap (lead_of 8) upper.rest in
    let word : value_of c.into.result ≡ 0 * 2 ^ 64 + c.group-lower.result = omega (arith, c.into.ensures) in
    c.add.ensures ∙ ap (λ (n : ℕ). value_of c.mul.result + n) word ∙ group-two (digits_left s.digits) s.zeros s.decimal.short upper.value lower c.mul.ensures
