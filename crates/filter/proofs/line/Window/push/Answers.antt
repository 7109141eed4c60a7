-- `Window::push` meets its contract: the line stands where it stood, or at the end again, and the sample goes in front of it. Assumes nothing.
use Rattle.std.proofs.Common.{◌≡◌, ap, ◌∙◌, arith, w16}
use Rattle.std.proofs.Math.Facts.{to_z-of_z}
use Rattle.filter.specs.Meaning.{most_taps, next}
use Rattle.filter.specs.Window.{line_at, slide, again}
use Rattle.filter.proofs.line.Window.push.Goals as goal
use Rattle.filter.proofs.line.Window.push.Goals.{then-self-eq0, else-self-eq0}

pub returns : goal.returns
returns c =
    let old = c.self.inside in
    let room = c.self.told in
    let x = to_z-of_z {w = w16} c.ranges.x in
    elim c.if-self-eq0.branch [
      | then-self-eq0 w ↦
          let copied = w.copy_within.ensures in
          let zero = w.if-self-eq0.true in
          let front : line_at most_taps w.copy_within.new.self ≡ c.args.self.now = rw copied.after (again old.places room) ∙ (rw zero at c.self.view_is) in
          rw (w.self-inside-is, w.at-is, x)
          (slide w.copy_within.new.self most_taps c.args.x (omega arith) (omega (arith, copied.len, room)) ∙ ap (λ l. next l c.args.x) front)
      | else-self-eq0 w ↦
          rw (w.self-inside-is, w.at-is, x, ← c.self.view_is)
          (slide old.places old.at c.args.x (omega (arith, w.if-self-eq0.false)) (omega (arith, room, c.self.invariant)))
    ]
