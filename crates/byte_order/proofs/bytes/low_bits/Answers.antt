-- `byte_order::bytes::low_bits` meets its contract: wrapping leaves the low bits. Assumes nothing.
use Rattle.std.proofs.Common.{◌∙◌, ap, ℤ}
use Rattle.laws.specs.Diff.{up}
use Rattle.format.specs.Meaning.{unsigned, wrap}
use Rattle.byte_order.specs.Meaning.{low_bits}
use Rattle.byte_order.proofs.bytes.low_bits.Goals as goal

pub returns : goal.returns
unfolding low_bits
returns g c = c.wrapped.ensures ∙ ap (λ (z : ℤ). up (wrap unsigned c.args.format.width z)) (c.into.ensures ∙ c.of.ensures)
