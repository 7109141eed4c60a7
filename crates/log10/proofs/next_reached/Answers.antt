-- The comparison on the fives is that of the meaning (`by-fives`).
use Rattle.std.proofs.Common.{ap, ℕ}
use Rattle.log10.proofs.Compare.{by-fives}
use Rattle.log10.proofs.next_reached.Goals as goal

pub overflow_mul-result : goal.overflow_mul-result
overflow_mul-result c = record { fits = rw c.fives-below.ensures c.requires.3 }

pub returns : goal.returns
returns c =
    let e = c.fives-below.ensures in
    by-fives c.args.raw c.args.frac c.args.guess _ _ c.requires.1 (ap (λ (p : ℕ × ℕ). p.0) e) (ap (λ (p : ℕ × ℕ). p.1) e)
