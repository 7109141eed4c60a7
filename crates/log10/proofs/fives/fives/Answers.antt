-- The table is computed: the pair of each number below 39 (`get_or-map-range_with_len`).
use Rattle.std.proofs.Common.{arith, ℕ, ◌-◌, ◌^◌}
use Rattle.std.proofs.lemmas.List.FromFn.{get_or-map-range_with_len}
use Rattle.log10.proofs.fives.fives.Goals as goal

pub returns : goal.returns
returns c = get_or-map-range_with_len (λ (n : ℕ). (5 ^ (19 - n), 5 ^ (n - 19))) 0 39 c.args.n c.args.n (0, 0) c.requires (omega arith)
