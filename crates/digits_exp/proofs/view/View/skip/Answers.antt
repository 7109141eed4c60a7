-- `digits_exp::view::View::skip` meets its contract, by whether any digit is skipped.
-- Assumes nothing.
use Rattle.std.proofs.Common.{ℕ, sym, ap, drop}
use Rattle.digits_exp.specs.Views.{view_digits}
use Rattle.digits_exp.proofs.Spans.{is-held, self-stands, stands-as}
use Rattle.digits_exp.proofs.view.View.skip.Goals as goal

pub returns-then-n-eq0 : goal.returns-then-n-eq0
returns-then-n-eq0 c =
    stands-as (self-stands (is-held c.args.self.held)) (ap (λ (n : ℕ). drop n (view_digits c.args.self)) (sym c.if-n-eq0.true))
