-- `digits_exp::moving::Pair::move_left` meets its contract, by whether all digits of the integer are moved.
-- Assumes nothing.
use native.Mathlib.Omega.{arith}
use Rattle.digits_exp.proofs.Spans.{is-held, held-is, empty_stands}
use Rattle.digits_exp.proofs.Moves.{left-moved-all, left-moved-some}
use Rattle.digits_exp.proofs.moving.Pair.move_left.Goals as goal

pub returns-then-a-n : goal.returns-then-a-n
returns-then-a-n c =
    left-moved-all _ _ _ _ (is-held c.args.self.a_held) (omega arith) c.default.ensures c.frac_with.ensures

pub invariant_of-int_with : goal.invariant_of-int_with
invariant_of-int_with c = record { a_held = held-is c.keep-a.ensures.is; b_held = held-is (empty_stands _ c.default-b.ensures).is }

pub invariant_of-frac_with : goal.invariant_of-frac_with
invariant_of-frac_with c = record { a_held = held-is c.skip-moved.ensures.is; b_held = c.args.self.b_held }

pub returns : goal.returns
returns c =
    left-moved-some _ _ _ _ (is-held c.args.self.a_held) (omega arith) c.keep-a.ensures
    c.skip-moved.ensures c.default-b.ensures c.int_with-int.ensures c.frac_with-frac.ensures
