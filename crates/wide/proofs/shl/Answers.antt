-- `wide::shl` meets its contract: the shift of the number, by 128 places and more too. Assumes nothing.
use Rattle.std.proofs.Common.{◌∙◌, ap, ℕ, ◌*◌, ◌%◌, ◌^◌}
use Rattle.laws.specs.Shifts.{left}
use Rattle.wide.proofs.shl.Goals as goal

pub returns : goal.returns
returns c =
    c.into.ensures ∙ c.unbounded_shl.ensures ∙ left 128 c.from.result c.args.k
    ∙ ap (λ (n : ℕ). n * 2 ^ c.args.k % 2 ^ 128) c.from.ensures
