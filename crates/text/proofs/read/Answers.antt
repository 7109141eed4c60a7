-- `text::read` meets its promise: the early refusals, then what the scanner found. Assumes nothing.
use Rattle.std.proofs.Common.{length}
use Rattle.text.specs.Read.{plain-early, plain-fine, plain-readable, early-exit, scan-exit, read-number}
use Rattle.text.proofs.read.Goals as goal

pub returns-in_err-format : goal.returns-in_err-format
returns-in_err-format g c =
    let a = c.args in
    early-exit g.R.Raw.kind a.manner a.width a.frac a.radix a.text.now _ (plain-early a.manner g.R.Raw.kind.sign a.width a.frac a.radix a.text.now)
    c.from_residual.ensures.1 c.in_err-format.ensures.err

pub plain-requires-2 : goal.plain-requires-2
plain-requires-2 g c =
    let a = c.args in
    (plain-fine a.width a.frac a.radix (length a.text.now) c.in_ok-format.ensures.ok.free).1

pub returns-in_err-p : goal.returns-in_err-p
returns-in_err-p g c =
    let a = c.args in
    scan-exit g.R.Raw.kind a.manner a.width a.frac a.radix a.text.now _ (plain-early a.manner g.R.Raw.kind.sign a.width a.frac a.radix a.text.now)
    c.in_ok-format.ensures.ok.free c.from_residual-in_err-p.ensures.1 c.in_err-p.ensures

pub settled-requires : goal.settled-requires
settled-requires g c =
    let a = c.args in
    plain-readable a.width a.frac a.text.now a.radix c.in_ok-format.ensures.ok c.in_ok-p.ensures

pub returns : goal.returns
returns g c =
    let a = c.args in
    read-number g.R.Raw.kind a.manner a.width a.frac a.radix a.text.now _ (plain-early a.manner g.R.Raw.kind.sign a.width a.frac a.radix a.text.now)
    c.in_ok-format.ensures.ok c.in_ok-p.ensures c.settled.ensures
