-- `units::in_steps` meets its contract: the fraction bits are at most a word's. Assumes nothing.
use Rattle.units.specs.Units.{frac_word}
use Rattle.units.proofs.in_steps.Goals as goal

pub shifted_left-requires : goal.shifted_left-requires
shifted_left-requires c = frac_word c.args.format.one_of_four c.args.format.within
