-- `write` meets its promise: the format's refusals first, then the test of the length decides 5, and the copy writes the text.
-- Assumes nothing.
use Rattle.std.proofs.Common.{◌∙◌, ap}
use Rattle.decimal.specs.Meaning.{raw_text}
use Rattle.decimal.proofs.Entry.{refuses, short, copied}
use Rattle.decimal.proofs.write.Goals as goal

pub returns-in_err-format : goal.returns-in_err-format
returns-in_err-format g c =
    refuses (g.R.Raw.kind.number_of c.args.raw) c.args.width c.args.frac c.args.out.now c.from_residual.result c.from_residual.ensures.1 c.in_err-format.ensures.err

pub returns-then-out-text : goal.returns-then-out-text
returns-then-out-text g c =
    let raw = g.R.Raw.kind.number_of c.args.raw in
    let o = c.in_ok-format.ensures.ok in
    short raw c.args.width c.args.frac c.args.out.now o.free
    (c.into_text-text.ensures ∙ c.laid_out.ensures ∙ ap (raw_text raw) o.frac_is) c.if-out-text.true

pub returns : goal.returns
returns g c =
    let raw = g.R.Raw.kind.number_of c.args.raw in
    let o = c.in_ok-format.ensures.ok in
    rw c.into.ensures (copied raw c.args.width c.args.frac c.args.out.now o.free
    (c.into_text-text.ensures ∙ c.laid_out.ensures ∙ ap (raw_text raw) o.frac_is) c.if-out-text.false c.copy_from_slice.ensures.after)
