-- `laid_out` meets its contract: sign, whole part and fraction stand side by side. Assumes nothing.
use Rattle.std.proofs.Common.{◌∷◌, ◌/◌, ◌%◌, ◌^◌, ℕ, List, ap, sym, ◌∙◌}
use Rattle.decimal.specs.Meaning.{sign_text, whole_text, fraction_text, text_of}
use Rattle.decimal.proofs.Entry.{raw-text}
use Rattle.decimal.proofs.Parts.{joined}
use Rattle.decimal.proofs.laid_out.Goals as goal

pub returns-then-neg : goal.returns-then-neg
unfolding text_of sign_text
returns-then-neg g c =
    let f = c.args.format.frac in
    let m = c.magnitude-size.result in
    c.prepend.ensures.text
    ∙ ap (λ (t : List ℕ). 45 ∷ t) (
    joined (whole_text (m / 2 ^ f)) (fraction_text f (m % 2 ^ f)) c.new-text.ensures.text c.write.ensures.text c.write-2.ensures.text
    )
    ∙ raw-text (g.R.Raw.kind.number_of c.args.raw) f (sym c.if-neg.true ∙ c.is_below-neg.ensures) c.magnitude-size.ensures

pub returns-else-neg : goal.returns-else-neg
unfolding text_of sign_text
returns-else-neg g c =
    let f = c.args.format.frac in
    let m = c.magnitude-size.result in
    joined (whole_text (m / 2 ^ f)) (fraction_text f (m % 2 ^ f)) c.new-text.ensures.text c.write.ensures.text c.write-2.ensures.text
    ∙ raw-text (g.R.Raw.kind.number_of c.args.raw) f (sym c.if-neg.false ∙ c.is_below-neg.ensures) c.magnitude-size.ensures
