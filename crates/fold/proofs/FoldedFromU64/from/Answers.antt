-- `Folded::from` meets its contract: one word is no whole 2^64 and itself. Assumes nothing.
use Rattle.std.proofs.Common.{refl, arith}
use Rattle.fold.specs.Fold.{fold_words}
use Rattle.fold.proofs.FoldedFromU64.from.Goals as goal

pub returns : goal.returns
returns c = fold_words c.args.word 0 (omega arith) c.ranges.word.fits refl
