-- `whole::digits` meets its contract. The invariant: the digits of what is left, before the text, are those of n before the text that
-- there was; each digit takes one place. The measure is what is left. Assumes nothing.
use Rattle.std.proofs.Common.{◌≡◌, ◌+◌, ◌/◌, ◌%◌, [], ◌∷◌, ◌++◌, List, ℕ, length, ap, ◌∙◌, arith, length-append}
use Rattle.decimal.specs.Meaning.{byte_of, whole_text}
use Rattle.decimal.specs.Laid.{laid}
use Rattle.decimal.specs.Digits.{whole-text-last, whole-text-more, whole-text-some, whole_word}
use Rattle.decimal.proofs.Steps.{whole-step, whole-stop}
use Rattle.decimal.proofs.whole.digits.Goals as goal

pub prepend-requires : goal.prepend-requires
prepend-requires c = omega (arith, whole-text-some c.loop-rest.rest, whole_word c.args.n c.ranges.n.fits)

pub loop-rest-preserved : goal.loop-rest-preserved
loop-rest-preserved c =
    let rest = c.loop-rest.rest in
    let inv = c.loop-rest.invariant in
    let turn = c.loop-rest-test.true in
    let more : length (whole_text rest) ≡ length (whole_text (rest / 10)) + 1 = ap length (whole-text-more rest turn)
    ∙ length-append (whole_text (rest / 10)) (byte_of (rest % 10) ∷ []) in
    record {
      less = omega (arith, inv.less);
      room = omega (arith, inv.room, more, c.prepend.ensures.start);
      text = ap (λ (t : List ℕ). whole_text (rest / 10) ++ t) c.prepend.ensures.text ∙ whole-step rest c.byte.result (laid c.loop-rest.text) inv.text turn c.byte.ensures;
    }

pub prepend-requires-2 : goal.prepend-requires-2
prepend-requires-2 c = omega (arith, whole-text-some c.loop-rest.rest, whole_word c.args.n c.ranges.n.fits)

pub returns-clause-room : goal.returns-clause-room
returns-clause-room c =
    let one : length (whole_text c.loop-rest.rest) ≡ 1 = ap length (whole-text-last c.loop-rest.rest c.loop-rest-test.false) in
    omega (arith, one, whole_word c.args.n c.ranges.n.fits)

pub returns-clause-text : goal.returns-clause-text
returns-clause-text c =
    c.prepend-2.ensures.text ∙ whole-stop c.loop-rest.rest c.byte-2.result (laid c.loop-rest.text) c.loop-rest.invariant.text c.loop-rest-test.false c.byte-2.ensures
