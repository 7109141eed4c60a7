-- `units::beside_half` meets its contract: the rest times 2^(64 - frac) stands beside 2^63 as the rest beside half of 2^frac. Assumes nothing.
use Rattle.std.proofs.Common.{◌∙◌, ap, arith, ◌-◌, ◌^◌, ℕ}
use Rattle.std.specs.Ordering.{nat_cmp}
use Rattle.std.proofs.lemmas.Cmp.{ranked}
use Rattle.laws.specs.Powers.{power-sub}
use Rattle.laws.specs.Shifts.{left}
use Rattle.units.specs.Units.{frac_word, spread, beside}
use Rattle.units.proofs.beside_half.Goals as goal

pub overflow_sub-format : goal.overflow_sub-format
overflow_sub-format c = frac_word c.args.format.one_of_four c.args.format.within

pub returns : goal.returns
returns c =
    let f = c.args.format.frac in
    let l = frac_word c.args.format.one_of_four c.args.format.within in
    let rest = c.unbounded_shl-rest.ensures ∙ left 64 c.args.size (64 - f) ∙ spread c.args.size f l in
    beside (2 ^ f) (2 ^ (64 - f)) _ c.cmp.result (omega (arith, power-sub f 64 l))
    (ranked _ (2 ^ 63) c.cmp.result (c.cmp.ensures ∙ ap (λ (n : ℕ). nat_cmp n (2 ^ 63)) rest))
