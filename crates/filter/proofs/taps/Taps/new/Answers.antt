-- `Taps::new` meets its contract: the code makes the tests of `taps_fault`. Assumes nothing.
use Rattle.laws.specs.Rules.{tests}
use Rattle.format.specs.Meaning.{named, checked, guarded}
use Rattle.filter.specs.Meaning.{taps_fault}
use Rattle.filter.proofs.taps.Taps.new.Goals as goal
use Rattle.filter.proofs.taps.Taps.new.Goals.{then-is_empty-via-then-is_empty, then-is_empty-via-else-is_empty+then-raws-gt-TAPS}

pub returns : goal.returns
unfolding checked guarded taps_fault named
returns c = search tests

pub returns-then-is_empty : goal.returns-then-is_empty
unfolding checked guarded taps_fault named
returns-then-is_empty c =
    elim c.then-is_empty.branch [
      | then-is_empty-via-then-is_empty w ↦ search tests
      | then-is_empty-via-else-is_empty+then-raws-gt-TAPS w ↦ search tests
    ]
