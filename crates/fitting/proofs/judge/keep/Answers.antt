-- `fitting::judge::keep` meets its contract: each turn keeps one raw more. Assumes nothing.
use Rattle.std.proofs.Common.{get_or, pos, take, w16, arith}
use Rattle.std.proofs.lemmas.List.{length-take-le}
use Rattle.laws.specs.Signed.{ok-back}
use Rattle.value_lines.specs.Held.{held_none, held_more, held_all}
use Rattle.fitting.proofs.judge.keep.Goals as goal

pub loop-i-init : goal.loop-i-init
loop-i-init c = held_none (take c.args.values c.args.raws.now) c.args.taps.now

pub bounds-taps-i : goal.bounds-taps-i
bounds-taps-i c =
    omega (arith, c.loop-i-test.true, c.requires.taps_room, c.loop-i.invariant.long, length-take-le c.args.values c.args.raws.now c.requires.raws_room)

pub loop-i-preserved : goal.loop-i-preserved
loop-i-preserved c =
    let raw = get_or (take c.args.values c.args.raws.now) c.loop-i.i (pos 0) in
    held_more c.loop-i.invariant (pos 0) _ c.loop-i-test.true
    (omega (arith, c.loop-i-test.true, c.requires.taps_room, length-take-le c.args.values c.args.raws.now c.requires.raws_room))
    (ok-back w16 raw (omega arith))

pub returns : goal.returns
returns c = held_all c.loop-i.invariant (omega (arith, c.loop-i-test.false, c.loop-i.auto.i-end))
