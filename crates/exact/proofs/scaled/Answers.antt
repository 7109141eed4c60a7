-- `exact::scaled` meets its contract: the product is below 2^128. Assumes nothing.
use Rattle.std.proofs.Common.{◌≡◌, ◌∙◌, ap, arith, ℕ, ◌+◌, ◌*◌, ◌%◌, ◌^◌}
use Rattle.exact.specs.Signs.{scaled-words}
use Rattle.exact.proofs.scaled.Goals as goal

pub returns : goal.returns
returns c =
    let a = c.args in
    let word : c.from.result ≡ 0 * 2 ^ 64 + a.size = omega (arith, c.from.ensures) in
    scaled-words a.size a.k c.ranges.size.fits c.requires (c.into.ensures ∙ ap (λ (n : ℕ). n * 2 ^ a.k % 2 ^ 128) word)
