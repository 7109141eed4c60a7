-- `read` meets its promise: what is refused first, then the list, then the first refused line or the taps. Assumes nothing.
use Rattle.std.proofs.Common.{◌≡◌, ◌∙◌, refl, ap, arith, length, List, ℕ, ℤ, Err}
use Rattle.std.proofs.lemmas.Result.{err_from_is_err_and}
use Rattle.value_lines.specs.Meaning.{line_number, raw_at, number_at, values_of}
use Rattle.fitting.specs.Meaning.{FileAnswer, Fitted, fitted, fitted_of}
use Rattle.fitting.specs.Read.{roomy_of, over-long}
use Rattle.fitting.proofs.Reading.{refused-first, checked-done, refused-line, all_done}
use Rattle.fitting.proofs.read.Goals as goal

-- what a `?` returned stands for the refusal
gives : {r s : FileAnswer} {lines answers : List ℕ} {raws taps : List ℤ} {f : Fitted} → r ≡ s → fitted s lines raws answers taps ≡ f
    → fitted r lines raws answers taps ≡ f
gives e h = rw e h

pub returns-in_err-values : goal.returns-in_err-values
unfolding fitted_of roomy_of
returns-in_err-values c =
    let a = c.args in
    let p = err_from_is_err_and c.from_residual.result c.from_residual.ensures.1 in
    gives (p.1 ∙ ap Err p.2) (refused-first _ _ _ a.file.now a.lines.now a.raws.now a.answers.now a.taps.now c.in_err-values.ensures)

pub store-requires : goal.store-requires
store-requires c =
    let a = c.args in
    let k = checked-done _ _ _ a.file.now a.lines.now a.raws.now a.answers.now a.taps.now c.in_ok-values.ensures in
    record {
      short_file = k.room.short;
      lines_room = k.room.lines-room;
      raws_room = k.room.raws-room;
      answers_room = k.room.answers-room;
    }

pub judge-requires : goal.judge-requires
judge-requires c =
    let a = c.args in
    let k = checked-done _ _ _ a.file.now a.lines.now a.raws.now a.answers.now a.taps.now c.in_ok-values.ensures in
    let st = c.store.ensures in
    let vs = values_of a.file.now in
    record {
      lines_room = omega (arith, k.count, ap length st.lines_are, over-long line_number vs a.lines.now);
      answers_room = omega (arith, k.count, ap length st.answers-are, over-long number_at vs a.answers.now);
    }

pub returns-in_err-judge : goal.returns-in_err-judge
unfolding fitted_of roomy_of
returns-in_err-judge c =
    let a = c.args in
    let k = checked-done _ _ _ a.file.now a.lines.now a.raws.now a.answers.now a.taps.now c.in_ok-values.ensures in
    let p = err_from_is_err_and c.from_residual-in_err-judge.result c.from_residual-in_err-judge.ensures.1 in
    gives (p.1 ∙ ap Err p.2)
    (refused-line _ _ _ a.file.now a.lines.now a.raws.now a.answers.now a.taps.now k c.store.ensures c.in_err-judge.ensures refl)

pub keep-requires : goal.keep-requires
keep-requires c =
    let a = c.args in
    let k = checked-done _ _ _ a.file.now a.lines.now a.raws.now a.answers.now a.taps.now c.in_ok-values.ensures in
    let st = c.store.ensures in
    record {
      raws_room = omega (arith, k.count, ap length st.raws-are, over-long raw_at (values_of a.file.now) a.raws.now);
      taps_room = omega (arith, k.count, k.room.taps-room);
    }

pub returns : goal.returns
unfolding fitted_of roomy_of
returns c =
    let a = c.args in
    let k = checked-done _ _ _ a.file.now a.lines.now a.raws.now a.answers.now a.taps.now c.in_ok-values.ensures in
    all_done _ _ _ a.file.now a.lines.now a.raws.now a.answers.now a.taps.now k c.store.ensures c.in_ok-judge.ensures refl c.keep.ensures
