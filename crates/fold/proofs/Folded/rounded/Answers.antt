-- `Folded::rounded` meets its contract: what is added is what rounding adds to the number (`round-carry`). Assumes nothing.
use Rattle.fold.specs.Fold.{round-less, round-equal, round-greater}
use Rattle.fold.proofs.Folded.rounded.Goals.{in-Less, in-Equal, in-Greater}
use Rattle.fold.proofs.Folded.rounded.Goals as goal

pub returns : goal.returns
returns c =
    let a = c.args in
    let e = c.plus.ensures in elim c.match-how.branch [
      | in-Less w ↦ round-less a.self w.in-Less.is w.carry-is e
      | in-Equal w ↦ round-equal a.self w.in-Equal.is w.carry-is e
      | in-Greater w ↦ round-greater a.self w.in-Greater.is w.carry-is e
    ]
