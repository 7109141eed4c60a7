-- `block::through` meets its contract. The loop's invariant: the first i samples are through. Assumes nothing.
use Rattle.std.proofs.Common.{◌≡◌, refl, sym, ap, ◌∙◌, Bool, true, false, arith, get_or, pos, w16}
use mir.Val.{bool_byte}
use Rattle.laws.specs.Signed.{ok-back}
use Rattle.filter.specs.declared.sum.Held.{Held}
use Rattle.filter.specs.Meaning.{bit_of, output_of, clip_of}
use Rattle.filter.specs.Block.{start, more, end}
use Rattle.filter.proofs.block.through.Goals as goal

pub loop-i-init : goal.loop-i-init
loop-i-init c =
    let a = c.args in
    start a.taps.now a.line.now a.samples.now a.outputs.now a.clips.now c.requires.outputs_len c.requires.clips_len

byte-is : (b : Bool) → bool_byte b ≡ bit_of b
unfolding bit_of
byte-is true = refl
byte-is false = refl

pub loop-i-preserved : goal.loop-i-preserved
unfolding output_of clip_of
loop-i-preserved c =
    let loop = c.loop-i in
    let a = c.args in
    let line = rw (ok-back w16 (get_or a.samples.now loop.i (pos 0)) (omega arith)) at c.push.ensures in
    let held = rw c.line.ensures.line at c.output-held.ensures in
    let output = ok-back w16 c.output-held.result.value (omega arith) ∙ ap (λ (h : Held). h.value) held in
    let mark = c.from.ensures ∙ byte-is c.output-held.result.clipped ∙ ap (λ (h : Held). bit_of h.clipped) held in
    rw (c.from-count.ensures ∙ sym c.from.ensures)
    (more a.taps.now a.line.now a.samples.now loop.i loop.line loop.outputs loop.clips loop.count loop.invariant c.push.new.self _ _ c.loop-i-test.true
    line output mark)

pub returns : goal.returns
returns c =
    let a = c.args in
    let loop = c.loop-i in
    end a.taps.now a.line.now a.samples.now loop.i loop.line loop.outputs loop.clips loop.count loop.invariant c.loop-i-test.false
