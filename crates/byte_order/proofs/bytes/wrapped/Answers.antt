-- `byte_order::bytes::wrapped` meets its contract: an exact number of one word, with the flag clear. Assumes nothing.
use Rattle.std.proofs.Common.{◌∙◌, ap, refl, ℤ, Ok}
use Rattle.format.specs.Meaning.{wrap}
use Rattle.format.specs.Answer.{done-answered}
use Rattle.byte_order.proofs.bytes.wrapped.Goals as goal

pub returns : goal.returns
returns g c =
    let k = g.R.Raw.kind in
    ap Ok c.into-2.ensures
    ∙ done-answered k refl (c.wrapped.ensures ∙ ap (λ (z : ℤ). k.raw_of (wrap k.sign c.args.format.width z)) (c.into.ensures ∙ c.of.ensures))
