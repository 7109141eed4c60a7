-- `fraction::digits` meets its contract. The invariant: the text, before the digits of what is left, is the whole text, and where nothing
-- is left it is that but for a last zero; and the digits that are left to write are enough for what is left. The measure is how many
-- those are at most. Assumes nothing.
use Rattle.std.proofs.Common.{◌≡◌, ◌++◌, ◌+◌, ◌-◌, ◌^◌, ◌<◌, ℕ, List, [], ◌∷◌, map, ap, sym, subst, ◌∙◌, arith, lit<}
use Rattle.decimal.specs.Meaning.{byte_of, fraction_by}
use Rattle.decimal.specs.Laid.{laid}
use Rattle.decimal.specs.Layout.{Ends}
use Rattle.decimal.proofs.Parts.{word_none, word_some}
use Rattle.decimal.proofs.Steps.{Last, pair_more, pair_last, ends-pair, ends_more}
use Rattle.decimal.proofs.fraction.digits.Goals as goal

pub returns-then-fraction-eq0-clause-text : goal.returns-then-fraction-eq0-clause-text
returns-then-fraction-eq0-clause-text c = word_none c.args.frac c.args.fraction (laid c.args.text.now) c.if-fraction-eq0.true

pub loop-rest-preserved : goal.loop-rest-preserved
loop-rest-preserved c =
    let l = c.loop-rest in
    let inv = l.invariant in
    let f = c.args.frac in
    let start = c.append.new.self.end in
    let high = c.mul-next.result.high in
    let low = c.mul-next.result.low in
    let a = c.byte.result in
    let b = c.byte-in-loop-rest.result in
    let j = start + f - l.text.end in
    let some = c.loop-rest-test.true in
    let left : 0 < j = ends_more (2 ^ 64) j l.rest inv.word some inv.ends in
    let below : low < 2 ^ 64 = omega arith in
    let two : j - 2 ≡ start + f - c.append-in-loop-rest-2.new.self.end = omega arith in
    let goal = laid c.append.new.self ++ map byte_of (fraction_by (2 ^ 64) f c.args.fraction) in
    let text : laid c.append-in-loop-rest-2.new.self ≡ laid l.text ++ (a ∷ []) ++ (b ∷ []) =
    c.append-in-loop-rest-2.ensures.text ∙ ap (λ (t : List ℕ). t ++ (b ∷ [])) c.append-in-loop-rest.ensures.text in
    record {
      start = cc;
      low = omega arith;
      high = omega arith;
      word = below;
      ends = subst (λ (k : ℕ). Ends k (2 ^ 64) low) two (ends-pair (2 ^ 64) l.rest high low (lit< tt) below c.mul-next.ensures j inv.word some inv.ends);
      more = λ w.
          ap (λ (t : List ℕ). t ++ map byte_of (fraction_by (2 ^ 64) (start + f - c.append-in-loop-rest-2.new.self.end) low)) text
          ∙ ap (λ (k : ℕ). laid l.text ++ (a ∷ []) ++ (b ∷ []) ++ map byte_of (fraction_by (2 ^ 64) k low)) (sym two)
          ∙ pair_more (2 ^ 64) l.rest high low (lit< tt) below c.mul-next.ensures a b (laid l.text) goal inv.word some c.byte.ensures c.byte-in-loop-rest.ensures j
          inv.ends (inv.more some) w;
      last = λ w.
          subst (λ (t : List ℕ). Last t goal) (sym text) (
          pair_last (2 ^ 64) l.rest high low (lit< tt) below c.mul-next.ensures a b (laid l.text) goal inv.word some c.byte.ensures c.byte-in-loop-rest.ensures j
          inv.ends (inv.more some) w
          );
    }

pub returns-clause-text : goal.returns-clause-text
returns-clause-text c =
    let last = c.loop-rest.invariant.last c.loop-rest-test.false in
    word_some c.args.frac c.args.fraction (laid c.args.text.now) c.if-fraction-eq0.false (
    c.drop_zero.ensures.text last.front last.byte last.is
    ∙ last.whole
    ∙ ap (λ (t : List ℕ). t ++ map byte_of (fraction_by (2 ^ 64) c.args.frac c.args.fraction)) c.append.ensures.text
    )
