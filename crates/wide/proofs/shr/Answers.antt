-- `wide::shr` meets its contract: the shift of the number, by 128 places and more too. Assumes nothing.
use Rattle.std.proofs.Common.{◌∙◌, ap, ℕ, ◌/◌, ◌^◌}
use Rattle.laws.specs.Shifts.{right}
use Rattle.wide.proofs.shr.Goals as goal

pub returns : goal.returns
returns c =
    c.into.ensures ∙ c.unbounded_shr.ensures ∙ right 128 c.from.result c.args.k c.from.type_inv
    ∙ ap (λ (n : ℕ). n / 2 ^ c.args.k) c.from.ensures
