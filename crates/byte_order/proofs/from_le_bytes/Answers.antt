-- `byte_order::from_le_bytes` meets its promise: the refusals first, then W / 8 bytes, read and wrapped. Assumes nothing.
use Rattle.format.specs.Answer.{exit-answered}
use Rattle.byte_order.proofs.Buffers.{length_of, opened}
use Rattle.byte_order.proofs.from_le_bytes.Goals as goal

pub returns-in_err-format : goal.returns-in_err-format
returns-in_err-format g c =
    exit-answered g.R.Raw.kind _ _ c.from_residual.result c.from_residual.ensures.1 c.in_err-format.ensures.err

pub read-requires : goal.read-requires
read-requires g c = (length_of _ _ _ c.in_ok-format.ensures.ok.free).1

pub returns : goal.returns
returns g c = opened g.R.Raw.kind c.in_ok-format.ensures.ok c.read.ensures c.wrapped.ensures
