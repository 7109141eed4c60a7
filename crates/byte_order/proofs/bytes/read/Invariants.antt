-- The loop of `byte_order::bytes::read`: the word is what the bytes so far made, each below the ones before it (`Gathered`). Assumes nothing.
use Rattle.byte_order.proofs.Gathered.{Gathered}
use Rattle.byte_order.proofs.bytes.read.Given as goal

abbrev pub invariant-loop-byte : goal.invariant-loop-byte
invariant-loop-byte l = Gathered l.bytes l.word l.byte-iterator.iter.rest.now
