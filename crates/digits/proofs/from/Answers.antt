-- `digits::from` meets its promise. The place of the digit cuts the run where `tail_of` starts.
-- Assumes nothing.
use Rattle.digits.proofs.Steps.{from_is}
use Rattle.digits.proofs.from.Goals as goal

pub returns : goal.returns
returns c =
    from_is _ c.place.ensures c.rest.ensures c.new.ensures
