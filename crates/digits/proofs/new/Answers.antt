-- `digits::new` meets its promise. What the two counts cut off is what `trimmed` drops.
-- Assumes nothing.
use Rattle.digits.proofs.Steps.{trim-within, trim-is}
use Rattle.digits.proofs.new.Goals as goal

pub overflow_sub-rest : goal.overflow_sub-rest
overflow_sub-rest c =
    trim-within c.unds_front.ensures c.rest-rest.ensures c.unds_behind.ensures

pub returns : goal.returns
returns c =
    trim-is c.unds_front.ensures c.rest-rest.ensures
    c.unds_behind.ensures c.head.ensures
