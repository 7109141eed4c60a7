-- The tests lead to the three answers of `Entry.antt`.
use Rattle.std.proofs.Common.{arith, sym, ◌∙◌, w64}
use Rattle.laws.specs.Signed.{ok-back}
use Rattle.format.specs.Meaning.{signed_kind}
use Rattle.format.specs.Answer.{exit-answered}
use Rattle.log10.specs.Meaning.{log10_outcome}
use Rattle.log10.proofs.Entry.{below, zero-size, refused-number, answered-number}
use Rattle.log10.proofs.log10.Goals as goal
use Rattle.log10.proofs.log10.Goals.{then-below-via-then-below, then-below-via-else-below+then-size-eq0}

pub returns-in_err-format : goal.returns-in_err-format
unfolding log10_outcome
returns-in_err-format g c =
    exit-answered signed_kind _ _ c.from_residual.result c.from_residual.ensures.1 c.in_err-format.ensures.err

pub returns-then-below : goal.returns-then-below
returns-then-below g c =
    refused-number g.R.Raw.kind c.args.raw c.in_ok-format.ensures.ok
    (elim c.then-below.branch [
      | then-below-via-then-below w ↦ below _ _ (sym c.is_below-below.ensures ∙ w.if-below.true)
      | then-below-via-else-below+then-size-eq0 w ↦ zero-size _ _ (sym c.magnitude-size.ensures ∙ w.if-size-eq0.true)
    ])

pub returns : goal.returns
returns g c =
    rw c.into.ensures (answered-number g.R.Raw.kind c.args.raw c.in_ok-format.ensures.ok
    (sym c.is_below-below.ensures ∙ c.if-below.false) c.magnitude-size.ensures (omega (arith, c.if-size-eq0.false))
    (ok-back w64 c.of_positive.result c.of_positive.type_inv ∙ c.of_positive.ensures))
