-- `value_lines::store` meets its contract: each turn has the next value, and its number, raw and answer go into its place. Assumes nothing.
use Rattle.std.proofs.Common.{◌≡◌, refl, ℕ, ℤ, to_z, of_z, ◌<◌, eqb, length, arith, rules, ◌∙◌}
use Rattle.std.proofs.lemmas.List.{length_push}
use Rattle.std.proofs.lemmas.Iterator.{YieldsList-from_zip}
use Rattle.std.proofs.lemmas.Iterator.Consumers.{YieldsList-turn, YieldsList-end, YieldsList-at, YieldsList-from_filter, YieldsList-from_enumerate}
use Rattle.std.proofs.lemmas.Iterator.Splits.{YieldsList-from_slice_split}
use mir.Syntax.{w16}
use Rattle.laws.specs.Signed.{ok-back}
use Rattle.value_lines.specs.Literal.{value-held, refusal-held}
use Rattle.value_lines.specs.Meaning.{line_feed, value_line, values_of, line_number, raw_at, number_at}
use Rattle.value_lines.proofs.Storing.{inclusive, holds_value, numbers, Turn, here, held_turn, all_turns}
use Rattle.value_lines.proofs.store.Goals.{in-Ok, in-Err}
use Rattle.value_lines.proofs.store.Goals as goal

-- the turn's pair stands at its place among all
turn : (c : goal.After-struct_told-1)
    → Turn c.args.file.now c.requires.short_file (length c.loop-n.yielded) c.in-Some.n c.in-Some.number c.in-Some.line.now
turn c = YieldsList-turn (YieldsList-at c.into_iter-n-iterator.ensures.into_iter_gives (YieldsList-from_enumerate (YieldsList-at c.enumerate-n-items.ensures.source
    (YieldsList-from_filter _ holds_value (YieldsList-at c.filter.ensures.source (YieldsList-from_zip (YieldsList-at c.zip.ensures.first
    (YieldsList-from_slice_split _ (λ b. eqb b line_feed) c.args.file.now c.split.ensures.rest c.split.ensures.done c.split.ensures.closure (λ x b q k. search rules)))
    (YieldsList-at c.zip.ensures.second (inclusive 1 4294967295 numbers c.new.ensures.start c.new.ensures.end c.new.ensures.exhausted (omega arith)))))
    c.filter.ensures.closure (λ x b q k. search rules))) c.enumerate-n-items.ensures.count))
    c.loop-n.yielded c.loop-n.n-iterator c.loop-n.yielded_by c.next.result c.next.new.self (c.in-Some.n, (c.in-Some.line, c.in-Some.number)) c.in-Some.is c.next.ensures.steps

-- so it has a value, and a place in each of the three slices
value-here : (c : goal.After-struct_told-1) → c.in-Some.n < length (values_of c.args.file.now)
value-here c = here c.args.file.now c.requires.short_file (turn c)

pub bounds-lines-n : goal.bounds-lines-n
bounds-lines-n c = omega (arith, value-here c, c.requires.lines_room, c.loop-n.invariant.lines-hold.long)

pub bounds-raws-n : goal.bounds-raws-n
bounds-raws-n c = omega (arith, value-here c, c.requires.raws_room, c.loop-n.invariant.raws-hold.long)

pub bounds-answers-n : goal.bounds-answers-n
bounds-answers-n c = omega (arith, value-here c, c.requires.answers_room, c.loop-n.invariant.answers-hold.long)

-- a number of 16 bits is stored as it is
kept : {p : ℤ × ℕ} {x : ℤ} {n : ℕ} → to_z w16 (of_z w16 x) ≡ x → p ≡ (to_z w16 (of_z w16 x), n) → (to_z w16 (of_z w16 p.0) ≡ x) × (p.1 ≡ n)
kept back is = (rw (is, back, back), rw is)

-- raw and answer, by whether the line is refused
told : (c : goal.After-struct_told-1) → (to_z w16 (of_z w16 c.match-read_value.raw.0) ≡ raw_at (value_line c.in-Some.number c.in-Some.line.now))
    × (c.match-read_value.raw.1 ≡ number_at (value_line c.in-Some.number c.in-Some.line.now))
told c =
    elim c.match-read_value.branch [
      | in-Ok w ↦
          let v = value-held c.in-Some.line.now c.in-Some.number w.in-Ok.ensures in
          let k = kept (ok-back w16 w.in-Ok.raw (omega arith)) w.raw-is in
          (k.0 ∙ v.0, k.1 ∙ v.1)
      | in-Err w ↦
          let v = refusal-held c.in-Some.line.now c.in-Some.number w.in-Err.ensures in
          (rw w.raw-is v.0, rw w.raw-is (w.number.ensures ∙ v.1))
    ]

pub loop-n-preserved : goal.loop-n-preserved
loop-n-preserved c =
    let l = c.loop-n in
    let more = length_push l.yielded (c.in-Some.n, (c.in-Some.line, c.in-Some.number)) in
    let t = turn c in
    let raw = told c in
    record {
      lines-hold = held_turn c.args.file.now c.requires.short_file t line_number l.invariant.lines-hold c.requires.lines_room more refl;
      raws-hold = held_turn c.args.file.now c.requires.short_file t raw_at l.invariant.raws-hold c.requires.raws_room more raw.0;
      answers-hold = held_turn c.args.file.now c.requires.short_file t number_at l.invariant.answers-hold c.requires.answers_room more raw.1;
    }

pub returns : goal.returns
returns c =
    let l = c.loop-n in
    let end = YieldsList-end (YieldsList-at c.into_iter-n-iterator.ensures.into_iter_gives (YieldsList-from_enumerate (YieldsList-at c.enumerate-n-items.ensures.source
    (YieldsList-from_filter _ holds_value (YieldsList-at c.filter.ensures.source (YieldsList-from_zip (YieldsList-at c.zip.ensures.first
    (YieldsList-from_slice_split _ (λ b. eqb b line_feed) c.args.file.now c.split.ensures.rest c.split.ensures.done c.split.ensures.closure (λ x b q k. search rules)))
    (YieldsList-at c.zip.ensures.second (inclusive 1 4294967295 numbers c.new.ensures.start c.new.ensures.end c.new.ensures.exhausted (omega arith)))))
    c.filter.ensures.closure (λ x b q k. search rules))) c.enumerate-n-items.ensures.count))
    l.yielded l.n-iterator l.yielded_by c.next.result c.next.new.self c.in-None.is c.next.ensures.steps in
    all_turns c.args.file.now c.requires.short_file (length l.yielded) end.1
    l.invariant.lines-hold l.invariant.raws-hold l.invariant.answers-hold
