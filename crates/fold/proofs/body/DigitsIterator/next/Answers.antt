-- `Digits::next` gives the first digit that is left. The invariant: the bytes passed have no digit. Assumes nothing.
use Rattle.std.proofs.Common.{sym, ap, ◌∙◌, ◌∷◌, length, ℕ, rules, [], ◌≡◌}
use Rattle.std.proofs.lemmas.List.{nil_from_length}
use Rattle.grammar.specs.Meaning.{digit_of}
use Rattle.grammar.specs.Run.{body_of}
use Rattle.fold.specs.Body.{digits_left, body-gap, body-digit}
use Rattle.fold.proofs.body.DigitsIterator.next.Goals as goal

pub returns-then-not-is_gap-clause-steps : goal.returns-then-not-is_gap-clause-steps
unfolding digits_left
returns-then-not-is_gap-clause-steps c =
    let b = c.in-Some.byte.now in
    let t = c.in-Some.rest.now in
    sym c.loop-byte.invariant ∙ ap body_of c.in-Some.ensures.cases.0 ∙ body-digit b t (sym c.is_gap.ensures ∙ c.if-not-is_gap.true)
    ∙ ap (λ (d : ℕ). d ∷ body_of t) (sym (c.from.ensures ∙ c.digit_of.ensures))

pub returns-then-not-is_gap-clause-goes : goal.returns-then-not-is_gap-clause-goes
unfolding digits_left
returns-then-not-is_gap-clause-goes c =
    let b = c.in-Some.byte.now in
    let t = c.in-Some.rest.now in
    let step : body_of c.args.self.now.rest.now ≡ digit_of b ∷ body_of t =
    sym c.loop-byte.invariant ∙ ap body_of c.in-Some.ensures.cases.0 ∙ body-digit b t (sym c.is_gap.ensures ∙ c.if-not-is_gap.true) in
    let shorter = ap length step in search rules

pub loop-byte-preserved : goal.loop-byte-preserved
unfolding digits_left
loop-byte-preserved c =
    sym (body-gap c.in-Some.byte.now c.in-Some.rest.now (sym c.is_gap.ensures ∙ c.if-not-is_gap.false)) ∙ sym (ap body_of c.in-Some.ensures.cases.0)
    ∙ c.loop-byte.invariant

pub returns-clause-steps : goal.returns-clause-steps
unfolding digits_left body_of
returns-clause-steps c =
    let none : digits_left c.loop-byte.self ≡ [] = ap body_of (nil_from_length _ c.in_default.ensures.cases) in (sym c.loop-byte.invariant ∙ none, none)
