-- `value_lines::count` meets its contract: the chain's parts that hold a value, and these are the value lines. Assumes nothing.
use Rattle.std.proofs.Common.{ap, ◌∙◌, eqb, length, rules}
use Rattle.std.proofs.lemmas.Iterator.Consumers.{count_from_yields_List, YieldsList-from_filter, YieldsList-at}
use Rattle.std.proofs.lemmas.Iterator.Splits.{YieldsList-from_slice_split}
use Rattle.value_lines.specs.Meaning.{line_feed, is_value, values_of}
use Rattle.value_lines.specs.Lines.{parts_of}
use Rattle.value_lines.proofs.Lines.{parts-values, count-values}
use Rattle.value_lines.proofs.count.Goals as goal

pub returns : goal.returns
unfolding values_of
returns c =
    let file = c.args.file.now in
    count_from_yields_List c.filter.result _ c.count.ensures.ran
    (YieldsList-from_filter _ is_value
    (YieldsList-at c.filter.ensures.source
    (YieldsList-from_slice_split _ (λ b. eqb b line_feed) file c.split.ensures.rest c.split.ensures.done c.split.ensures.closure
    (λ x b q k. search rules)))
    c.filter.ensures.closure (λ x b q k. search rules))
    ∙ count-values 1 (parts_of file) ∙ ap length (parts-values 1 file)
