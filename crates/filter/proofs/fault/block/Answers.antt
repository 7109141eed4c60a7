-- `fault::block` meets its contract: the code makes the tests of `block_fault`, and leaves the rest to `Taps::new`. Assumes nothing.
use Rattle.laws.specs.Rules.{tests}
use Rattle.format.specs.Meaning.{named, checked, guarded}
use Rattle.filter.specs.Meaning.{block_fault}
use Rattle.filter.proofs.fault.block.Goals as goal
use Rattle.filter.proofs.fault.block.Goals.{then-samples-outputs-via-then-samples-outputs, then-samples-outputs-via-else-samples-outputs+then-samples-clips}

pub returns : goal.returns
unfolding block_fault
returns c = search tests

pub returns-then-samples-outputs : goal.returns-then-samples-outputs
unfolding checked guarded block_fault named
returns-then-samples-outputs c =
    elim c.then-samples-outputs.branch [
      | then-samples-outputs-via-then-samples-outputs w ↦ search tests
      | then-samples-outputs-via-else-samples-outputs+then-samples-clips w ↦ search tests
    ]
