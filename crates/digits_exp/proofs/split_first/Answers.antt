-- `digits_exp::split_first` meets its promise, by where the first digit stands.
-- Assumes nothing.
use Rattle.digits_exp.proofs.Spans.{held-is}
use Rattle.digits_exp.proofs.Firsts.{first-front, first_one, first_two, first-behind, first-none}
use Rattle.digits_exp.proofs.split_first.Goals as goal

pub returns-then-d-gt0 : goal.returns-then-d-gt0
returns-then-d-gt0 c = first-front _ _ c.requires c.if-d-gt0.true

pub returns-then-d-gt0-2 : goal.returns-then-d-gt0-2
returns-then-d-gt0-2 c =
    first_one _ _ c.requires c.if-d-gt0.false
    c.first_digit.ensures c.skip-d.ensures

pub returns-then-d-gt0-3 : goal.returns-then-d-gt0-3
returns-then-d-gt0-3 c =
    first_two _ _ c.requires
    c.if-d-gt0.false c.if-d-gt0-2.false
    c.first_digit-then-d-gt0-3.ensures c.skip-d-then-d-gt0-3.ensures

pub returns-then-d-gt0-4 : goal.returns-then-d-gt0-4
returns-then-d-gt0-4 c =
    first-behind _ _ c.requires
    c.if-d-gt0.false c.if-d-gt0-2.false
    c.if-d-gt0-3.false c.if-d-gt0-4.true

pub returns : goal.returns
returns c =
    first-none _ _ c.requires
    c.if-d-gt0.false c.if-d-gt0-2.false
    c.if-d-gt0-3.false c.if-d-gt0-4.false

pub invariant_of-part1 : goal.invariant_of-part1
invariant_of-part1 c = record { held = held-is c.requires.one }

pub invariant_of-part2 : goal.invariant_of-part2
invariant_of-part2 c = record { held = held-is c.requires.two }
