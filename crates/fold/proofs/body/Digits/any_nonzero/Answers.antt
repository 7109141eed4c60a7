-- `Digits::any_nonzero` meets its contract: the chain asks each digit that is left. Assumes nothing.
use Rattle.std.proofs.Common.{refl, rules}
use borrow.Author.Tests.{tests}
use Rattle.std.proofs.lemmas.Iterator.Consumers.{YieldsList-from_first}
use Rattle.std.proofs.lemmas.Iterator.Search.{any_from_yields_List}
use Rattle.fold.specs.Body.{digits_left}
use Rattle.fold.proofs.body.Digits.any_nonzero.Goals as goal

pub returns : goal.returns
returns c =
    any_from_yields_List _ _ _ _ c.any.ensures.ran (YieldsList-from_first (λ x. x) digits_left (digits_left c.args.self) refl)
    (λ x b q k. search (rules, tests))
