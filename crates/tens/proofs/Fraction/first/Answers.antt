-- `Fraction::first` meets its contract: the first 27 digits are below 10^27. Assumes nothing.
use Rattle.std.proofs.Common.{sym, subst, ℕ, ◌^◌, ◌<◌}
use Rattle.fold.specs.Body.{digits_left}
use Rattle.tens.specs.Digits.{small_all}
use Rattle.tens.specs.Walk.{lead-fits}
use Rattle.tens.proofs.Fraction.first.Goals as goal

pub first_raw-requires : goal.first_raw-requires
first_raw-requires c =
    let s = c.args.self.now in
    let ds = digits_left s.digits in
    (subst (λ (n : ℕ). n < 10 ^ 27) (sym c.lead.ensures) (lead-fits s.zeros ds (small_all ds s.decimal.below)), s.decimal.few)
