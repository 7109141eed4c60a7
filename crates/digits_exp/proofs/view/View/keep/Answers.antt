-- `digits_exp::view::View::keep` meets its contract, by whether any digit is kept.
-- Assumes nothing.
use Rattle.std.proofs.Common.{ℕ, sym, ap, take}
use Rattle.digits_exp.specs.Views.{view_digits}
use Rattle.digits_exp.proofs.Spans.{empty_stands, stands-as}
use Rattle.digits_exp.proofs.view.View.keep.Goals as goal

pub returns-then-n-eq0 : goal.returns-then-n-eq0
returns-then-n-eq0 c =
    stands-as (empty_stands _ c.default.ensures) (ap (λ (n : ℕ). take n (view_digits c.args.self)) (sym c.if-n-eq0.true))
