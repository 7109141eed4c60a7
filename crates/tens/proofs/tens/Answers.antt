-- `tens::tens` meets its contract: where the exponent puts the point (`Point`), and the raw of each case. Assumes nothing.
use Rattle.std.proofs.Common.{◌∙◌, ap, List, ℕ, ◌*◌, ◌^◌, ◌+◌, ◌-◌, arith}
use Rattle.laws.specs.Nearest.{nearest_even}
use Rattle.grammar.specs.Naturals.{nat_of}
use Rattle.grammar.specs.Run.{body_of}
use Rattle.fold.specs.Fold.{fold_of}
use Rattle.fold.specs.Body.{body-length}
use Rattle.tens.specs.Tens.{tens-down, tens-past, tens-up}
use Rattle.tens.proofs.tens.Goals as goal

pub overflow_add-places : goal.overflow_add-places
overflow_add-places c = omega (arith, body-length c.args.body.now)

pub returns-then-down : goal.returns-then-down
returns-then-down c =
    let s = c.args in
    tens-down s.frac (body_of s.body.now) s.after s.exp c.if-down.true
    (c.below.ensures ∙ ap (λ (ds : List ℕ). fold_of (nearest_even (nat_of 10 ds * 2 ^ s.frac) (10 ^ (s.after + s.exp)))) c.of.ensures)

pub returns-then-places-exp : goal.returns-then-places-exp
returns-then-places-exp c =
    let s = c.args in
    tens-past s.frac (body_of s.body.now) s.after s.exp c.if-down.false c.if-places-exp.true
    (c.past.ensures ∙ ap (λ (ds : List ℕ). fold_of (nat_of 10 ds * 10 ^ (s.exp - s.after) * 2 ^ s.frac)) c.of.ensures)

pub returns : goal.returns
returns c =
    let s = c.args in
    tens-up s.frac (body_of s.body.now) s.after s.exp c.if-down.false c.if-places-exp.false
    (c.below-2.ensures ∙ ap (λ (ds : List ℕ). fold_of (nearest_even (nat_of 10 ds * 2 ^ s.frac) (10 ^ (s.after - s.exp)))) c.of.ensures)
