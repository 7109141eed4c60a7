-- `prefix::group` meets its contract. The invariant: the number so far, with the digits that are left, is the number of all. Assumes nothing.
use Rattle.std.proofs.Common.{refl, ap, ◌∙◌, List, ℕ, get_or, drop, drop-drop, arith}
use Rattle.fold.specs.Body.{digits_left, first-or}
use Rattle.tens.specs.Walk.{group-next, group-fits, group-end}
use Rattle.tens.proofs.prefix.group.Goals as goal

pub overflow_mul-value : goal.overflow_mul-value
overflow_mul-value c =
    let l = c.loop in
    let ds = digits_left c.args.digits.now in
    omega (arith, group-fits ds c.args.count l.counter l.value refl (omega arith) (omega arith) c.requires.1 l.invariant.0)

pub overflow_add-value : goal.overflow_add-value
overflow_add-value c =
    let l = c.loop in
    let ds = digits_left c.args.digits.now in
    let next = first-or (digits_left l.digits) (digits_left c.next.new.self) c.next.result c.next.ensures.steps c.unwrap_or.ensures in
    let digit = next.0 ∙ ap (λ (es : List ℕ). get_or es 0 0) l.invariant.1 in
    omega (arith, group-fits ds c.args.count l.counter l.value digit (omega arith) (omega arith) c.requires.1 l.invariant.0)

pub loop-preserved : goal.loop-preserved
loop-preserved c =
    let l = c.loop in
    let ds = digits_left c.args.digits.now in
    let next = first-or (digits_left l.digits) (digits_left c.next.new.self) c.next.result c.next.ensures.steps c.unwrap_or.ensures in
    let digit = next.0 ∙ ap (λ (es : List ℕ). get_or es 0 0) l.invariant.1 in
    (group-next ds c.args.count l.counter l.value digit (omega arith) l.invariant.0, next.1 ∙ ap (drop 1) l.invariant.1 ∙ drop-drop 1 l.counter ds)

pub returns-clause-value : goal.returns-clause-value
returns-clause-value c =
    group-end (digits_left c.args.digits.now) c.args.count c.loop.counter c.loop.value (omega arith) c.loop.invariant.0
