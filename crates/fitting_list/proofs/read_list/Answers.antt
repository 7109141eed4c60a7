-- `fitting_list::read_list` meets its promise: what is refused first; then the list, in which each turn writes one
-- entry more; then the first refused line or the taps. By the tie it meets that of `fitting::read`. Assumes nothing.
use Rattle.std.proofs.Common.{◌≡◌, ◌≤◌, ◌<◌, ◌++◌, take, drop, ◌∙◌, refl, ap, sym, arith, length}
use Rattle.std.proofs.Common.{List, ℕ, ℤ, Err, Ok, get_or, w16, to_z, of_z, pos, to_z-of_z, rules, map}
use Rattle.std.proofs.lemmas.Result.{err_from_is_err_and}
use Rattle.std.proofs.lemmas.List.{length-take-le, length-map}
use Rattle.value_lines.specs.Held.{Held, held_none, held_more}
use Rattle.value_lines.specs.Meaning.{over, values_of, line_number, raw_at, number_at}
use Rattle.fitting.specs.Meaning.{FileAnswer}
use Rattle.fitting.specs.Read.{over-long}
use Rattle.fitting.specs.Room.{checked_of}
use Rattle.fitting.proofs.Reading.{Checked, checked-done, refused-line, all_done}
use Rattle.fitting_list.specs.declared.Entry.{Entry}
use Rattle.fitting_list.specs.Meaning.{entry_of, records, Listed}
use Rattle.fitting_list.specs.Records.{zero-places, signed-zeros}
use Rattle.fitting_list.proofs.Theorems.{agree}
use Rattle.fitting_list.specs.Filled.{no_line, entry-is, all-filled, refused-all, handed}
use Rattle.fitting_list.proofs.read_list.Goals as goal

-- what a `?` returned stands for the refusal
gives : {r s : FileAnswer} {list : List Entry} {taps : List ℤ} {f : Listed} → r ≡ s → records s list taps ≡ f
    → records r list taps ≡ f
gives e h = rw e h

-- nothing is refused before
known : (file : List ℕ) (xs : List Entry) (taps : List ℤ) {n : ℕ}
    → Ok n ≡ checked_of file (length xs) (length xs) (length xs) (length taps)
    → Checked (length xs) (length xs) (length xs) file zero-places signed-zeros zero-places taps n
known file xs taps = checked-done (length xs) (length xs) (length xs) file zero-places signed-zeros zero-places taps

-- the first places of the list, one for each value
places : (file : List ℕ) (xs : List Entry) (taps : List ℤ) {n : ℕ}
    → Ok n ≡ checked_of file (length xs) (length xs) (length xs) (length taps) → length (take n xs) ≡ n
places file xs taps {n} e =
    let k = known file xs taps e in
    length-take-le n xs (omega (arith, k.count, k.room.lines-room))

-- with an entry in each of them the list is the promised one
filled : (file : List ℕ) (xs : List Entry) (taps : List ℤ) {n : ℕ}
    → Ok n ≡ checked_of file (length xs) (length xs) (length xs) (length taps)
    → {ys : List Entry} (i : ℕ) → Held (map entry_of (values_of file)) i (take n xs) ys
    → length (take n xs) ≤ i → i ≤ length (take n xs) → ys ++ drop n xs ≡ over (map entry_of (values_of file)) xs
filled file xs taps {n} e i h past within =
    let k = known file xs taps e in
    let every = k.count ∙ sym (length-map (values_of file) entry_of) in
    all-filled xs n i h past within every (omega (arith, k.count, k.room.lines-room))

pub returns-in_err-values : goal.returns-in_err-values
returns-in_err-values c =
    let a = c.args in
    let p = err_from_is_err_and c.from_residual.result c.from_residual.ensures.1 in
    let kept = gives (p.1 ∙ ap Err p.2) (refused-all a.file.now a.list.now a.taps.now c.in_err-values.ensures) in
    record { records = kept; parts = (agree a.file.now a.list.now a.taps.now _ _ _).0 kept }

pub store-requires : goal.store-requires
store-requires c =
    let a = c.args in
    let k = known a.file.now a.list.now a.taps.now c.in_ok-values.ensures in
    record { short_file = k.room.short; lines_room = k.room.few; raws_room = k.room.few; answers_room = k.room.few }

pub judge-judged-requires : goal.judge-judged-requires
judge-judged-requires c =
    let a = c.args in
    let k = known a.file.now a.list.now a.taps.now c.in_ok-values.ensures in
    let vs = values_of a.file.now in
    record {
      lines_room = omega (arith, k.count, ap length c.store.ensures.lines_are, over-long line_number vs zero-places);
      answers_room = omega (arith, k.count, ap length c.store.ensures.answers-are, over-long number_at vs zero-places);
    }

pub slice_bounds-entry-items-end : goal.slice_bounds-entry-items-end
slice_bounds-entry-items-end c =
    let a = c.args in
    let k = known a.file.now a.list.now a.taps.now c.in_ok-values.ensures in
    omega (arith, k.count, k.room.lines-room)

pub slice_bounds-entry-items-end-2 : goal.slice_bounds-entry-items-end-2
slice_bounds-entry-items-end-2 c =
    let a = c.args in
    sym (places a.file.now a.list.now a.taps.now c.in_ok-values.ensures)

pub loop-i-init : goal.loop-i-init
loop-i-init c =
    let a = c.args in
    let k = known a.file.now a.list.now a.taps.now c.in_ok-values.ensures in
    let size = places a.file.now a.list.now a.taps.now c.in_ok-values.ensures in
    record {
      few = omega (arith, size, k.count, k.room.few);
      stored = held_none (map entry_of (values_of a.file.now)) _;
    }

pub loop-i-preserved : goal.loop-i-preserved
loop-i-preserved c =
    let a = c.args in
    let loop = c.loop-i in
    let i = loop.i in
    let vs = values_of a.file.now in
    let k = known a.file.now a.list.now a.taps.now c.in_ok-values.ensures in
    let size = places a.file.now a.list.now a.taps.now c.in_ok-values.ensures in
    let here : i < length vs = omega (arith, size, k.count, c.loop-i-test.true) in
    let raw = get_or c.store.new.raws i (pos 0) in
    let same : to_z w16 (of_z w16 raw) ≡ raw = to_z-of_z {w = w16} (search rules) in
    let there : i < length (map entry_of vs) = rw (length-map vs entry_of) here in
    record {
      few = loop.invariant.few;
      stored = held_more loop.invariant.stored (entry_of no_line) _ there c.loop-i-test.true
          (rw same (entry-is c.store.ensures i here));
    }

pub returns-in_err-judged : goal.returns-in_err-judged
returns-in_err-judged c =
    let a = c.args in
    let xs = a.list.now in
    let loop = c.loop-i in
    let ok = c.in_ok-values.ensures in
    let k = known a.file.now xs a.taps.now ok in
    let list = filled a.file.now xs a.taps.now ok loop.i loop.invariant.stored c.loop-i-test.false loop.auto.i-end in
    let p = err_from_is_err_and c.from_residual-in_err-judged.result c.from_residual-in_err-judged.ensures.1 in
    let refused =
    gives (p.1 ∙ ap Err p.2)
    (handed a.file.now xs a.taps.now k.none
    (refused-line (length xs) (length xs) (length xs) a.file.now zero-places signed-zeros zero-places a.taps.now k
    c.store.ensures c.in_err-judged.ensures refl) list) in
    record { records = refused; parts = (agree a.file.now xs a.taps.now _ _ _).0 refused }

pub keep-requires : goal.keep-requires
keep-requires c =
    let a = c.args in
    let vs = values_of a.file.now in
    let k = known a.file.now a.list.now a.taps.now c.in_ok-values.ensures in
    record {
      raws_room = omega (arith, k.count, ap length c.store.ensures.raws-are, over-long raw_at vs signed-zeros);
      taps_room = omega (arith, k.count, k.room.taps-room);
    }

pub returns : goal.returns
returns c =
    let a = c.args in
    let xs = a.list.now in
    let loop = c.loop-i in
    let ok = c.in_ok-values.ensures in
    let k = known a.file.now xs a.taps.now ok in
    let list = filled a.file.now xs a.taps.now ok loop.i loop.invariant.stored c.loop-i-test.false loop.auto.i-end in
    let done =
    handed a.file.now xs a.taps.now k.none
    (all_done (length xs) (length xs) (length xs) a.file.now zero-places signed-zeros zero-places a.taps.now k
    c.store.ensures c.in_ok-judged.ensures refl c.keep.ensures) list in
    record { records = done; parts = (agree a.file.now xs a.taps.now _ _ _).0 done }
