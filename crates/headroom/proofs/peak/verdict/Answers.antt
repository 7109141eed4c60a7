-- `peak::verdict` meets its contract: high before low. Assumes nothing.
use Rattle.std.proofs.Common.{sym, ◌∙◌}
use Rattle.headroom.specs.Head.{verdict-high, verdict-low, verdict-none}
use Rattle.headroom.proofs.peak.verdict.Goals as goal

pub returns-then-clips : goal.returns-then-clips
returns-then-clips c =
    let high = sym c.clips.ensures.way ∙ c.if-clips.true in
    let told = verdict-high c.args.taps.now c.args.witness.now c.clips.new.witness high (rw high at c.clips.ensures.witness) in
    record { verdict = told.0; witness = told.1 }

pub returns-then-clips-2 : goal.returns-then-clips-2
returns-then-clips-2 c =
    let high = sym c.clips.ensures.way ∙ c.if-clips.false in
    let low = sym c.clips-2.ensures.way ∙ c.if-clips-2.true in
    let told = verdict-low c.args.taps.now c.args.witness.now c.clips-2.new.witness high low (rw low at c.clips-2.ensures.witness) in
    record { verdict = told.0; witness = told.1 }

pub returns : goal.returns
returns c =
    let high = sym c.clips.ensures.way ∙ c.if-clips.false in
    let low = sym c.clips-2.ensures.way ∙ c.if-clips-2.false in
    let kept = (rw low at c.clips-2.ensures.witness) ∙ (rw high at c.clips.ensures.witness) in
    let told = verdict-none c.args.taps.now c.args.witness.now c.clips-2.new.witness high low kept in
    record { verdict = told.0; witness = told.1 }
