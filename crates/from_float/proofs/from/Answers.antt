-- `from_float::from` meets its contract: the refusals first, then the words are settled as the number is. Assumes nothing.
use Rattle.std.proofs.Common.{ap, sym, ◌∙◌, ℤ}
use Rattle.format.specs.Meaning.{answered, settle}
use Rattle.format.specs.Answer.{exit-answered}
use Rattle.float.specs.Formats.{binary_of}
use Rattle.from_float.specs.Parts.{from-as, from-opened, refuses-pattern}
use Rattle.from_float.proofs.from.Goals as goal

pub returns-in_err-format : goal.returns-in_err-format
returns-in_err-format g c =
    exit-answered g.R.Raw.kind _ _ c.from_residual.result c.from_residual.ensures.1 c.in_err-format.ensures.err

pub returns-in_err-of_pattern : goal.returns-in_err-of_pattern
returns-in_err-of_pattern g c =
    let a = c.args in
    let kind = g.R.Raw.kind in
    let exit = c.from_residual-in_err-of_pattern in
    exit-answered kind _ _ exit.result exit.ensures.1
    (refuses-pattern _ _ _ _ _ c.in_ok-format.ensures.ok c.in_err-of_pattern.ensures.err)
    ∙ ap (answered kind) (sym (from-as (binary_of a.binary) a.manner kind.sign a.width a.frac a.pattern))

pub returns : goal.returns
returns g c =
    let kind = g.R.Raw.kind in
    c.fit.ensures ∙ ap (λ (z : ℤ). answered kind (settle c.args.manner kind.sign c.in_ok-format.format.width z)) c.new-exact.ensures
    ∙ ap (answered kind) (from-opened _ _ _ _ _ c.in_ok-format.ensures.ok _ c.in_ok-of_pattern.ensures.ok c.negative.ensures c.magnitude-magnitude.ensures)
