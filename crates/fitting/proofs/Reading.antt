-- The three ways out of `read`, put into the promised outcome: a refusal before anything is written, a refused line, and the taps. Assumes nothing.
use Rattle.std.proofs.Math.Path.{◌≡◌, ap}
use Rattle.std.specs.Prelude.{Ok, Err, List, map, ℕ, ℤ, length, take}
use Rattle.std.proofs.Common.{sym, ◌∙◌}
use Rattle.std.proofs.Math.Bool.{cond}
use Rattle.format.specs.Meaning.{guarded}
use Rattle.format.specs.declared.refusal.Refusal.{Refusal}
use Rattle.format.specs.Checked.{none-checked}
use Rattle.filter.specs.Refuse.{refuses}
use Rattle.value_lines.specs.Meaning.{ValueLine, values_of, line_number, raw_at, number_at, over}
use Rattle.value_lines.specs.Store.{AllEntered}
use Rattle.fitting.specs.declared.FileRefusal.{FileRefusal}
use Rattle.fitting.specs.declared.FileRefusal.TheVariants.{Whole}
use Rattle.fitting.specs.Meaning.{FileAnswer, judge, accepted, file_fault, fitted, listed}
use Rattle.fitting.specs.Room.{checked_of, Room, fault-none}
use Rattle.fitting.specs.Judge.{judged_of, judged-is}
use Rattle.fitting.specs.Read.{over-take, judge-done, accepted-or, accepted-and, roomy_of}

-- ---- the three ways out
module _ (a b c : ℕ) (file lines : List ℕ) (raws : List ℤ) (answers : List ℕ) (taps : List ℤ) where
  abbrev fault : ℕ
  fault = file_fault (length file) (length (values_of file)) a b c (length taps)

  pub refused-first : {e : Refusal} → Err e ≡ checked_of file a b c (length taps)
      → fitted (Err (Whole e)) lines raws answers taps ≡ roomy_of a b c file lines raws answers taps
  unfolding checked_of roomy_of
  refused-first r =
      refuses fault (length (values_of file)) (λ (e : Refusal). fitted (Err (Whole e)) lines raws answers taps) (listed (values_of file) lines raws answers taps) r

  -- nothing is refused before
  pub record Checked (n : ℕ) : Type 0 where
    pub none : fault ≡ 0
    pub count : n ≡ length (values_of file)
    pub room : Room (length file) (length (values_of file)) a b c (length taps)

  pub checked-done : {n : ℕ} → Ok n ≡ checked_of file a b c (length taps) → Checked n
  unfolding checked_of
  checked-done r =
      let k = none-checked (length (values_of file)) r in
      record { none = k.0; count = k.1; room = fault-none (length file) (length (values_of file)) a b c (length taps) k.0 }

  module _ {n : ℕ} {l : List ℕ} {r : List ℤ} {w : List ℕ} {answer : FileAnswer} (known : Checked n)
      (stored : AllEntered (values_of file) lines raws answers l r w)
      (judged : answer ≡ judged_of n (take n l) (take n w)) where
    abbrev vs : List ValueLine
    vs = values_of file

    says : answer ≡ judge (length vs) vs
    says =
        let first = ap (take n) stored.lines_are ∙ over-take line_number vs lines n known.count in
        let second = ap (take n) stored.answers-are ∙ over-take number_at vs answers n known.count in
        judged ∙ rw (first, second, known.count) (judged-is (length vs) vs)

    closed : {t : List ℤ} → t ≡ cond (accepted vs) (over (map raw_at vs) taps) taps → fitted answer l r w t ≡ roomy_of a b c file lines raws answers taps
    unfolding roomy_of guarded
    closed e = rw (says, stored.lines_are, stored.raws-are, stored.answers-are, e, known.none)

    pub refused-line : {e : FileRefusal} → answer ≡ Err e → fitted (Err e) l r w taps ≡ roomy_of a b c file lines raws answers taps
    refused-line {e} d =
        let no-taps = accepted-or (length vs) vs (λ m h. let z : Err e ≡ Ok m = sym d ∙ says ∙ h in cc) in
        ap (λ (x : FileAnswer). fitted x l r w taps) (sym d) ∙ closed (rw no-taps)

    pub all_done : {m : ℕ} {t : List ℤ} → answer ≡ Ok m → t ≡ over (take n r) taps → fitted (Ok n) l r w t ≡ roomy_of a b c file lines raws answers taps
    all_done {m} {t} d e =
        let yes-taps = accepted-and (length vs) m vs (sym says ∙ d) in
        let done : answer ≡ Ok n = rw (says, known.count) (judge-done (length vs) vs yes-taps) in
        let kept = ap (take n) stored.raws-are ∙ over-take raw_at vs raws n known.count in
        ap (λ (x : FileAnswer). fitted x l r w t) (sym done) ∙ closed (e ∙ rw (kept, yes-taps))
