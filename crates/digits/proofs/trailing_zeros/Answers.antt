-- `digits::trailing_zeros` meets its contract: the chain counts the zeros in front of the bytes that are no `_`, read from behind.
-- Assumes nothing.
use Rattle.std.proofs.Common.{eqb, not, ap, ◌∙◌, rules, tests, reverse}
use Rattle.std.proofs.lemmas.Iterator.Adapters.{YieldsList-from_rev_slice}
use Rattle.std.proofs.lemmas.Iterator.Consumers.{count_from_yields_List, YieldsList-from_filter}
use Rattle.std.proofs.lemmas.Iterator.Search.{YieldsList-from_take_while}
use Rattle.digits.specs.Meaning.{is_und, is_zero, leading_zeros, trailing_zeros}
use Rattle.digits.specs.Runs.{digits-reverse}
use Rattle.digits.proofs.Ends.{zeros-counted}
use Rattle.digits.proofs.trailing_zeros.Goals as goal

pub returns : goal.returns
unfolding is_und is_zero leading_zeros trailing_zeros
returns c =
    let t = c.args.view.now in
    count_from_yields_List c.take_while.result _ c.count.ensures.ran
    (YieldsList-from_take_while _ (λ b. eqb b 48)
    (YieldsList-from_filter _ (λ b. not (eqb b 95)) (YieldsList-from_rev_slice t (cc)) (cc) (λ x b q k. search (rules, tests)))
    c.take_while.ensures.closure c.take_while.ensures.done (λ x b q k. search (rules, tests)))
    ∙ zeros-counted (reverse t) ∙ ap leading_zeros (digits-reverse t)
