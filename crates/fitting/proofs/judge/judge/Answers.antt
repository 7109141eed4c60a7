-- `fitting::judge::judge` meets its contract: what `find` gives is the first refused pair. Assumes nothing.
use Rattle.std.proofs.Common.{◌≡◌, ◌∙◌, ap, sym, take, rules, ℕ, List, Option}
use Rattle.std.specs.List.{find, zip}
use Rattle.std.specs.Option.{option_map}
use Rattle.std.proofs.lemmas.Iterator.{YieldsList-from_slice, YieldsList-from_zip}
use Rattle.std.proofs.lemmas.Iterator.Search.{find_from_yields_List}
use borrow.Author.Tests.{tests}
use Rattle.fitting.specs.Judge.{refused_pair, told, judged_of, judged-told}
use Rattle.fitting.proofs.judge.judge.Goals as goal

says : {A : Type 0} (v : A → ℕ × ℕ) (n : ℕ) (lines answers : List ℕ) {r o : Option A} → r ≡ o
    → option_map v r ≡ find refused_pair (zip lines answers) → told n (option_map v o) ≡ judged_of n lines answers
says v n lines answers e h = ap (λ (x : Option _). told n (option_map v x)) (sym e) ∙ ap (told n) h ∙ judged-told n lines answers

pub returns-in-Some : goal.returns-in-Some
unfolding told
returns-in-Some c =
    let n = c.args.values in
    let ls = take n c.args.lines.now in
    let ws = take n c.args.answers.now in
    says _ n ls ws c.in-Some.is (find_from_yields_List refused_pair c.find-refused.new.self _ c.find-refused.result c.find-refused.ensures.ran
    (YieldsList-from_zip (YieldsList-from_slice ls cc) (YieldsList-from_slice ws cc)) (λ x b q k. search (rules, tests)))

pub returns-in-None : goal.returns-in-None
unfolding told
returns-in-None c =
    let n = c.args.values in
    let ls = take n c.args.lines.now in
    let ws = take n c.args.answers.now in
    says _ n ls ws c.in-None.is (find_from_yields_List refused_pair c.find-refused.new.self _ c.find-refused.result c.find-refused.ensures.ran
    (YieldsList-from_zip (YieldsList-from_slice ls cc) (YieldsList-from_slice ws cc)) (λ x b q k. search (rules, tests)))
