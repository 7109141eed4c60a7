-- `fitting::check::room` meets its contract, by the tests. Assumes nothing.
use Rattle.laws.specs.Rules.{tests}
use Rattle.format.specs.Meaning.{checked, guarded, named}
use Rattle.fitting.specs.Meaning.{room_fault}
use Rattle.fitting.proofs.check.room.Goals.{then-lines-raws-via-then-lines-raws, then-lines-raws-via-else-lines-raws+then-lines-answers, then-lines-raws-via-else-lines-raws+else-lines-answers+then-lines-values, then-lines-raws-via-else-lines-raws+else-lines-answers+else-lines-values+then-taps-values}
use Rattle.fitting.proofs.check.room.Goals as goal

pub returns-then-lines-raws : goal.returns-then-lines-raws
unfolding room_fault checked guarded named
returns-then-lines-raws c =
    elim c.then-lines-raws.branch [
      | then-lines-raws-via-then-lines-raws w ↦ search tests
      | then-lines-raws-via-else-lines-raws+then-lines-answers w ↦ search tests
      | then-lines-raws-via-else-lines-raws+else-lines-answers+then-lines-values w ↦ search tests
      | then-lines-raws-via-else-lines-raws+else-lines-answers+else-lines-values+then-taps-values w ↦ search tests
    ]

pub returns-then-values-eq0 : goal.returns-then-values-eq0
unfolding room_fault checked guarded named
returns-then-values-eq0 c = search tests

pub returns : goal.returns
unfolding room_fault checked guarded named
returns c = search tests
