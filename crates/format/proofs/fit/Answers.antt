-- `format::fit` meets its contract: what is within the limit is done or held, what the residue stands for is wrapped. Assumes nothing.
use Rattle.std.proofs.Common.{arith, sym, ◌∙◌, Ok}
use Rattle.std.proofs.Math.Path.{refl, ap}
use Rattle.std.proofs.lemmas.Result.{err_from_is_err_and}
use Rattle.format.specs.Meaning.{named}
use Rattle.format.specs.Answer.{done-answered, refused-answered, at-manner, none-or, none-not}
use Rattle.format.specs.Meaning.{done, wrap, exact}
use Rattle.format.specs.Settle.{wrapping-done}
use Rattle.format.proofs.Manners.{some-within, strict-done, strict-over, saturating-done, overflowing-done, held-of}
use Rattle.format.proofs.fit.Goals as goal

pub returns-in_err-size-in-Strict : goal.returns-in_err-size-in-Strict
unfolding named
returns-in_err-size-in-Strict g c =
    let k = g.R.Raw.kind in
    let w = c.args.format.width in
    let x = c.args.x in
    let p = err_from_is_err_and c.from_residual.result c.from_residual.ensures.1 in
    let q = none-or c.within-within.result c.in_err-size-in-Strict.ensures.value in
    rw (p.1, p.2, q.1)
    (refused-answered k (at-manner k.sign w _ c.in-Strict.is (strict-over k.sign w x.neg x.high x.low c.end-end.ensures c.within-within.ensures q.0)))

pub with_sign-requires : goal.with_sign-requires
with_sign-requires g c =
    let x = c.args.x in
    some-within g.R.Raw.kind.sign c.args.format.width x.neg x.high x.low c.end-end.ensures c.within-within.ensures c.in_ok-size-in-Strict.ensures.ok_part

pub returns-in_ok-size-in-Strict : goal.returns-in_ok-size-in-Strict
returns-in_ok-size-in-Strict g c =
    let k = g.R.Raw.kind in
    let w = c.args.format.width in
    let x = c.args.x in
    ap Ok c.into.ensures
    ∙ done-answered k
    (at-manner k.sign w _ c.in-Strict.is
    (strict-done k.sign w x.neg x.high x.low c.end-end.ensures c.within-within.ensures c.in_ok-size-in-Strict.ensures.ok_part))
    c.with_sign.ensures

pub with_sign-requires-in-Saturating : goal.with_sign-requires-in-Saturating
with_sign-requires-in-Saturating g c =
    let x = c.args.x in
    omega (
      arith,
      c.end-end.ensures,
      held-of g.R.Raw.kind.sign c.args.format.width x.neg x.high x.low c.end-end.ensures c.within-within.ensures c.unwrap_or-size.ensures,
    )

pub returns-in-Saturating : goal.returns-in-Saturating
returns-in-Saturating g c =
    let k = g.R.Raw.kind in
    let w = c.args.format.width in
    let x = c.args.x in
    let h = held-of k.sign w x.neg x.high x.low c.end-end.ensures c.within-within.ensures c.unwrap_or-size.ensures in
    ap Ok c.into-in-Saturating.ensures
    ∙ done-answered k
    (at-manner k.sign w _ c.in-Saturating.is (saturating-done k.sign w x.neg x.high x.low c.end-end.ensures c.within-within.ensures h))
    c.with_sign-in-Saturating.ensures

pub returns-in-Wrapping : goal.returns-in-Wrapping
returns-in-Wrapping g c =
    let k = g.R.Raw.kind in
    let w = c.args.format.width in
    ap Ok c.into-in-Wrapping.ensures ∙ done-answered k (at-manner k.sign w _ c.in-Wrapping.is (wrapping-done k.sign w _ refl)) c.wrapped.ensures

pub returns-in-Overflowing : goal.returns-in-Overflowing
returns-in-Overflowing g c =
    let k = g.R.Raw.kind in
    let w = c.args.format.width in
    let x = c.args.x in
    done-answered k
    (at-manner k.sign w _ c.in-Overflowing.is
    (overflowing-done k.sign w x.neg x.high x.low c.end-end.ensures c.within-within.ensures refl ∙ ap (done (wrap k.sign w (exact x.neg x.high x.low))) (sym (none-not c.within-within.result c.is_none.result c.is_none.ensures))))
    c.wrapped-in-Overflowing.ensures
