-- `digits::upto` meets its promise. The place of the digit cuts the run where `head_of` ends.
-- Assumes nothing.
use Rattle.digits.proofs.Steps.{upto_is}
use Rattle.digits.proofs.upto.Goals as goal

pub returns : goal.returns
returns c =
    upto_is _ c.place.ensures c.head.ensures c.new.ensures
