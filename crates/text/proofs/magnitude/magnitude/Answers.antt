-- `text::magnitude::magnitude` meets its contract: the stretch of the text goes to the core of its radix. Assumes nothing.
use mathlib.Core.Path.{◌∙◌, ap}
use Rattle.fold.specs.Fold.{fold_of}
use Rattle.text.specs.Magnitude.{digits-fit, legal-bits, legal-tens, raw-bits, raw-tens}
use Rattle.text.proofs.magnitude.magnitude.Goals as goal

pub overflow_add-n : goal.overflow_add-n
overflow_add-n c =
    let a = c.args in
    record { fits = digits-fit a.text.now a.p a.radix a.frac c.requires }

pub tens-requires : goal.tens-requires
tens-requires c =
    let a = c.args in
    legal-tens a.text.now a.p a.radix a.frac c.requires c.if-radix-eq10.true

pub returns-then-radix-eq10 : goal.returns-then-radix-eq10
returns-then-radix-eq10 c =
    let a = c.args in
    c.tens.ensures ∙ ap fold_of (raw-tens a.text.now a.p a.radix a.frac c.requires c.if-radix-eq10.true)

pub bits-requires : goal.bits-requires
bits-requires c =
    let a = c.args in
    legal-bits a.text.now a.p a.radix a.frac c.requires c.if-radix-eq10.false

pub returns : goal.returns
returns c =
    let a = c.args in
    c.bits.ensures ∙ ap fold_of (raw-bits a.text.now a.p a.radix a.frac c.requires)
