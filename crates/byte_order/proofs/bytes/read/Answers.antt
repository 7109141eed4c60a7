-- `byte_order::bytes::read` meets its contract: the bytes are gathered from the last on (`Gathered`). Assumes nothing.
use Rattle.std.proofs.Common.{rules, ◌<◌, ◌∙◌, ap, arith}
use Rattle.byte_order.proofs.Gathered.{none-gathered, next-gathered, next-fits, all-gathered}
use Rattle.byte_order.proofs.bytes.read.Goals as goal

pub loop-byte-init : goal.loop-byte-init
loop-byte-init c =
    none-gathered (ap (λ r. r.iter.rest.now) c.into_iter-byte-iterator.ensures.into_iter_gives ∙ ap (λ r. r.rest.now) c.rev-byte-items.ensures.source ∙ c.iter.ensures.rest)

pub overflow_mul-word : goal.overflow_mul-word
overflow_mul-word c =
    let fits = next-fits _ _ _ _ _ c.loop-byte.invariant c.in-Some.ensures.steps 0 (omega arith) c.requires in
    record { fits = omega (arith, fits) }

pub overflow_add-word : goal.overflow_add-word
overflow_add-word c =
    let small : c.in-Some.byte.now < 256 = search rules in
    let fits = next-fits _ _ _ _ _ c.loop-byte.invariant c.in-Some.ensures.steps _ small c.requires in
    record { fits = omega (arith, fits, c.from.ensures) }

pub loop-byte-preserved : goal.loop-byte-preserved
loop-byte-preserved c =
    let small : c.in-Some.byte.now < 256 = search rules in
    rw c.from.ensures (next-gathered _ _ _ _ _ c.loop-byte.invariant c.in-Some.ensures.steps small)

pub returns : goal.returns
returns c = all-gathered _ _ _ c.loop-byte.invariant c.in-None.ensures.steps.0
