-- `digits::first` meets its promise. The view starts with its first digit.
-- Assumes nothing.
use Rattle.std.proofs.Common.{◌∙◌, ap}
use Rattle.digits.specs.Meaning.{first_of}
use Rattle.digits.specs.Theorems.{view_first}
use Rattle.digits.proofs.Ends.{front-byte}
use Rattle.digits.proofs.first.Goals as goal

pub returns : goal.returns
returns c =
    c.copied.ensures ∙ c.first.ensures.value ∙ front-byte c.new.result.now ∙ ap first_of c.new.ensures.bytes ∙ view_first c.args.view.now
