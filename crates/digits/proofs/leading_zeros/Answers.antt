-- `digits::leading_zeros` meets its contract: the chain counts the zeros in front of the bytes that are no `_`.
-- Assumes nothing.
use Rattle.std.proofs.Common.{eqb, not, ◌∙◌, rules, tests}
use Rattle.std.proofs.lemmas.Iterator.{YieldsList-from_slice}
use Rattle.std.proofs.lemmas.Iterator.Consumers.{count_from_yields_List, YieldsList-from_filter}
use Rattle.std.proofs.lemmas.Iterator.Search.{YieldsList-from_take_while}
use Rattle.digits.specs.Meaning.{is_und, is_zero}
use Rattle.digits.proofs.Ends.{zeros-counted}
use Rattle.digits.proofs.leading_zeros.Goals as goal

pub returns : goal.returns
unfolding is_und is_zero
returns c =
    let t = c.args.view.now in
    count_from_yields_List c.take_while.result _ c.count.ensures.ran
    (YieldsList-from_take_while _ (λ b. eqb b 48)
    (YieldsList-from_filter _ (λ b. not (eqb b 95)) (YieldsList-from_slice t (cc)) (cc) (λ x b q k. search (rules, tests)))
    c.take_while.ensures.closure c.take_while.ensures.done (λ x b q k. search (rules, tests)))
    ∙ zeros-counted t
