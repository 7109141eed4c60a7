-- `digits_exp::moving::Pair::move_right` meets its contract, by whether all digits of the fraction are moved.
-- Assumes nothing.
use native.Mathlib.Omega.{arith}
use Rattle.digits_exp.proofs.Spans.{is-held, held-is, empty_stands}
use Rattle.digits_exp.proofs.Moves.{right-moved-all, right-moved-some}
use Rattle.digits_exp.proofs.moving.Pair.move_right.Goals as goal

pub returns-then-b-n : goal.returns-then-b-n
returns-then-b-n c =
    right-moved-all _ _ _ _ (is-held c.args.self.b_held) (omega arith) c.int_with.ensures c.default.ensures

pub invariant_of-int_with : goal.invariant_of-int_with
invariant_of-int_with c = record { a_held = c.args.self.a_held; b_held = held-is c.keep-moved.ensures.is }

pub invariant_of-frac_with : goal.invariant_of-frac_with
invariant_of-frac_with c = record { a_held = held-is (empty_stands _ c.default-a.ensures).is; b_held = held-is c.skip-b.ensures.is }

pub returns : goal.returns
returns c =
    right-moved-some _ _ _ _ (is-held c.args.self.b_held) (omega arith)
    c.keep-moved.ensures c.skip-b.ensures c.default-a.ensures
    c.int_with-int.ensures c.frac_with-frac.ensures
