-- `fault::headroom` meets its contract: the code makes the test of `head_fault`, and leaves the rest to `Taps::new`. Assumes nothing.
use Rattle.laws.specs.Rules.{tests}
use Rattle.format.specs.Meaning.{named, checked, guarded}
use Rattle.headroom.specs.Meaning.{head_fault}
use Rattle.headroom.proofs.fault.headroom.Goals as goal

pub returns-then-taps-places : goal.returns-then-taps-places
unfolding checked guarded head_fault named
returns-then-taps-places c = search tests

pub returns : goal.returns
unfolding head_fault
returns c = search tests
