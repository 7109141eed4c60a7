-- `digits::last` meets its promise. The view ends with its last digit.
-- Assumes nothing.
use Rattle.std.proofs.Common.{◌∙◌, ap}
use Rattle.digits.specs.Meaning.{last_of}
use Rattle.digits.specs.Theorems.{view-last}
use Rattle.digits.proofs.Ends.{back-byte}
use Rattle.digits.proofs.last.Goals as goal

pub returns : goal.returns
returns c =
    c.copied.ensures ∙ c.last.ensures.value ∙ back-byte c.new.result.now ∙ ap last_of c.new.ensures.bytes ∙ view-last c.args.view.now
