-- `text::settled` meets its contract: a format makes of the folded number what it makes of the number. Assumes nothing.
use Rattle.std.proofs.Common.{◌∙◌, ap, refl, ℤ}
use Rattle.format.specs.Meaning.{answered, settle, with_sign}
use Rattle.text.specs.Read.{settled-number}
use Rattle.text.proofs.settled.Goals as goal

pub returns : goal.returns
returns g c =
    let a = c.args in
    let kind = g.R.Raw.kind in
    let folded = c.new.ensures ∙ ap (with_sign a.p.neg) c.into.ensures in
    c.fit.ensures ∙ ap (λ (z : ℤ). answered kind (settle a.manner kind.sign a.format.width z)) folded
    ∙ ap (answered kind) (settled-number a.manner kind.sign a.format.width a.format.frac a.radix a.text.now a.p
    a.format.one_of_four c.magnitude-magnitude.ensures refl)
