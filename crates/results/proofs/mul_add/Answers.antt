-- `results::mul_add` meets its contract: the floor of the two words of the product leaves room for a word. Assumes nothing.
use Rattle.std.proofs.Common.{◌+◌, ◌*◌, ◌^◌, rules}
use Rattle.results.specs.Results.{room}
use Rattle.results.proofs.mul_add.Goals as goal

pub add-requires : goal.add-requires
add-requires c =
    let q = c.product.result in
    room q.neg (q.high * 2 ^ 64 + q.low) (2 ^ c.args.frac) c.args.x c.args.y c.product.ensures (search rules) (search rules)
