-- The laws that the contract names are proved in specs/, each from its like for `fitting::read` by the tie. Assumes nothing.
use Rattle.fitting_list.proofs.Cases.{list-cases}
use Rattle.written_file.specs.List.{written_back_list}
use Rattle.written_file.proofs.zero.Goals as goal

pub returns : goal.returns
returns c = record { written = written_back_list; cases = list-cases }
