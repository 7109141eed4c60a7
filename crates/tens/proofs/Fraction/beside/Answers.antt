-- `Fraction::beside` meets its contract: what the calls promise, one after another, is what `beside-folded` asks for. Assumes nothing.
use Rattle.std.proofs.Common.{sym, subst, ℕ, ◌^◌, ◌<◌, ◌++◌, replicate}
use Rattle.fold.specs.Fold.{folded_value}
use Rattle.fold.specs.Body.{digits_left}
use Rattle.tens.specs.Digits.{small_all, small-zeros}
use Rattle.tens.specs.Prefix.{lead_of, first_below}
use Rattle.tens.specs.Walk.{lead-fits}
use Rattle.tens.specs.Tens.{beside-folded}
use Rattle.tens.proofs.Fraction.beside.Goals as goal

pub side-side-requires : goal.side-side-requires
side-side-requires c =
    let s = c.args.self.now in
    let ds = digits_left s.digits in
    let less = first_below s.frac (lead_of 27 (replicate s.zeros 0 ++ ds)) (lead-fits s.zeros ds (small_all ds s.decimal.below)) in
    subst (λ (n : ℕ). n < 2 ^ s.frac) (sym c.first-q.ensures) less

pub returns : goal.returns
returns c =
    let s = c.args.self.now in
    let ds = digits_left s.digits in
    beside-folded (replicate s.zeros 0 ++ ds) (small-zeros s.zeros ds (small_all ds s.decimal.below)) s.frac s.decimal.few (folded_value c.args.whole)
    c.first-q.result c.first-q.ensures c.side-side.ensures (rw c.from.ensures at c.scaled.ensures) c.plus-sum.ensures c.rounded.ensures
