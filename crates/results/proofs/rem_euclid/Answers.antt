-- `results::rem_euclid` meets its contract: what is left above a multiple of the magnitude. Assumes nothing.
use Rattle.std.proofs.Common.{◌∙◌, sym, ap, ℕ, ◌-ℤ◌}
use Rattle.exact.specs.Meaning.{number_of}
use Rattle.exact.specs.Signs.{abs-sign}
use Rattle.units.specs.Meaning.{floor_to}
use Rattle.results.proofs.rem_euclid.Goals as goal

pub returns : goal.returns
returns c =
    let x = number_of c.args.x in
    c.into.ensures ∙ c.of.ensures ∙ c.modulo.ensures ∙ ap (λ (m : ℕ). x -ℤ floor_to x m) (sym (abs-sign c.args.y.neg c.args.y.size))
