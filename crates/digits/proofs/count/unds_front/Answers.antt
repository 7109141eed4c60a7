-- `digits::count::unds_front` meets its contract: the chain counts what the library's `take_while` gives.
-- Assumes nothing.
use Rattle.std.proofs.Common.{eqb, ap, ◌∙◌, rules, tests, length}
use Rattle.std.proofs.lemmas.Iterator.{YieldsList-from_slice}
use Rattle.std.proofs.lemmas.Iterator.Consumers.{count_from_yields_List}
use Rattle.std.proofs.lemmas.Iterator.Search.{YieldsList-from_take_while}
use Rattle.digits.specs.Meaning.{is_und}
use Rattle.digits.proofs.Ends.{taken-is}
use Rattle.digits.proofs.count.unds_front.Goals as goal

pub returns : goal.returns
unfolding is_und
returns c =
    let t = c.args.run.now in
    count_from_yields_List c.take_while.result _ c.count.ensures.ran
    (YieldsList-from_take_while _ (λ b. eqb b 95) (YieldsList-from_slice t cc)
    c.take_while.ensures.closure c.take_while.ensures.done (λ x b q k. search (rules, tests)))
    ∙ ap length (taken-is is_und t)
