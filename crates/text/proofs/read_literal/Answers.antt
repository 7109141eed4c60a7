-- `text::read_literal` meets its promise: the early refusals, then what the scanner found. Assumes nothing.
use Rattle.std.proofs.Common.{subst}
use Rattle.format.specs.Meaning.{Sign}
use Rattle.format.specs.declared.Manner.TheVariants.{Strict}
use Rattle.grammar.specs.Meaning.{literal_radix}
use Rattle.scan.specs.Literal.{FindsLiteral}
use Rattle.text.specs.Read.{literal-early, literal-readable, literal-meant, literal-found, early-exit, scan-exit, read-number}
use Rattle.text.proofs.read_literal.Goals as goal

pub returns-in_err-format : goal.returns-in_err-format
returns-in_err-format g c =
    let a = c.args in
    let s = g.R.Raw.kind.sign in
    early-exit g.R.Raw.kind Strict a.width a.frac (literal_radix s a.text.now) a.text.now _ (literal-early s a.width a.frac a.text.now)
    c.from_residual.ensures.1 c.in_err-format.ensures.err

pub returns-in_err-p : goal.returns-in_err-p
returns-in_err-p g c =
    let a = c.args in
    let s = g.R.Raw.kind.sign in
    let w = c.literal-written in
    let h = subst (λ (s : Sign). FindsLiteral s a.text.now w.result) c.signed.ensures w.ensures in
    scan-exit g.R.Raw.kind Strict a.width a.frac w.result.radix a.text.now _ (literal-meant s a.width a.frac a.text.now h)
    c.in_ok-format.ensures.ok.free c.from_residual-in_err-p.ensures.1 (literal-found s a.text.now h c.in_err-p.was)

pub settled-requires : goal.settled-requires
settled-requires g c =
    let a = c.args in
    let w = c.literal-written in
    let h = subst (λ (s : Sign). FindsLiteral s a.text.now w.result) c.signed.ensures w.ensures in
    literal-readable a.width a.frac a.text.now g.R.Raw.kind.sign c.in_ok-format.ensures.ok h c.in_ok-p.was

pub returns : goal.returns
returns g c =
    let a = c.args in
    let s = g.R.Raw.kind.sign in
    let w = c.literal-written in
    let h = subst (λ (s : Sign). FindsLiteral s a.text.now w.result) c.signed.ensures w.ensures in
    read-number g.R.Raw.kind Strict a.width a.frac w.result.radix a.text.now _ (literal-meant s a.width a.frac a.text.now h)
    c.in_ok-format.ensures.ok (literal-found s a.text.now h c.in_ok-p.was) c.settled.ensures
