-- The refusals before anything is written, as the code comes to them, and what is known where there is none. Assumes nothing.
use Rattle.std.specs.Prelude.{◌≡◌, refl, Result, Ok, Err, Bool, true, false, cond, List, ℕ, ◌≤◌, ◌<◌, eqb, leb, length}
use Rattle.std.proofs.Common.{arith}
use borrow.Author.Tests.{ne_eqb, le-leb, lt-leb, eqb-true, leb-true}
use Rattle.format.specs.Meaning.{named, guarded, checked}
use Rattle.format.specs.Checked.{fault-checked, none-checked}
use Rattle.filter.specs.Meaning.{most_taps}
use Rattle.value_lines.specs.Meaning.{file_limit, values_of}
use Rattle.format.specs.declared.refusal.Refusal.{Refusal}
use Rattle.format.specs.declared.refusal.Refusal.TheVariants.{TooLong, TooManyValues}
use Rattle.fitting.specs.Meaning.{room_fault, file_fault}

-- the number of values, or the refusal
unfoldable pub checked_of : List ℕ → ℕ → ℕ → ℕ → ℕ → Result ℕ Refusal
checked_of file lines raws answers taps = checked (file_fault (length file) (length (values_of file)) lines raws answers taps) (length (values_of file))

-- ---- each way out
module _ (file : List ℕ) (lines raws answers taps : ℕ) where
  pub checked-long : file_limit < length file → Err TooLong ≡ checked_of file lines raws answers taps
  unfolding checked_of file_fault checked guarded named
  checked-long h = rw (lt-leb (length file) file_limit h)

  module _ {n : ℕ} (short : length file ≤ file_limit) (is : n ≡ length (values_of file)) where
    pub checked-many : most_taps < n → Err TooManyValues ≡ checked_of file lines raws answers taps
    unfolding checked_of file_fault checked guarded named
    checked-many h = rw (le-leb (length file) file_limit short, ← is, lt-leb n most_taps h)

    module _ (few : n ≤ most_taps) where
      pub checked-room : {e : Refusal} → ◌≡◌ {A = Result (Unit {0}) Refusal} (Err e) (checked (room_fault n lines raws answers taps) (tt {0})) → Err e ≡ checked_of file lines raws answers taps
      unfolding checked_of file_fault checked guarded
      checked-room r =
          let f = fault-checked (tt {0}) r in
          rw (le-leb (length file) file_limit short, ← is, le-leb n most_taps few, ne_eqb (room_fault n lines raws answers taps) 0 f.0, f.1)

      pub checked-fine : ◌≡◌ {A = Result (Unit {0}) Refusal} (Ok (tt {0})) (checked (room_fault n lines raws answers taps) (tt {0})) → Ok n ≡ checked_of file lines raws answers taps
      unfolding checked_of file_fault checked guarded
      checked-fine r = rw (le-leb (length file) file_limit short, ← is, le-leb n most_taps few, (none-checked (tt {0}) r).0)

-- ---- what is known where nothing is refused
pub record Room (bytes values lines raws answers taps : ℕ) : Type 0 where
  pub short : bytes ≤ file_limit
  pub few : values ≤ most_taps
  pub lines-room : values ≤ lines
  pub raws-room : values ≤ raws
  pub answers-room : values ≤ answers
  pub taps-room : values ≤ taps

pub fault-none : (bytes values lines raws answers taps : ℕ) → file_fault bytes values lines raws answers taps ≡ 0 → Room bytes values lines raws answers taps
unfolding file_fault room_fault
fault-none bytes values lines raws answers taps e =
    go (leb bytes file_limit) (leb values most_taps) (eqb lines raws) (eqb lines answers) (leb values lines) (leb values taps) (eqb values 0) refl refl refl refl
    refl refl e
  where
    go : (a b c d f g h : Bool) → leb bytes file_limit ≡ a → leb values most_taps ≡ b → eqb lines raws ≡ c → eqb lines answers ≡ d → leb values lines ≡ f
        → leb values taps ≡ g
        → ◌≡◌ {A = ℕ} (cond a (cond b (cond c (cond d (cond f (cond g (cond h 40 0) 5) 5) 5) 5) 41) 4) 0 → Room bytes values lines raws answers taps
    go false b c d f g h p q r s t u e = absurd (omega arith)
    go true false c d f g h p q r s t u e = absurd (omega arith)
    go true true false d f g h p q r s t u e = absurd (omega arith)
    go true true true false f g h p q r s t u e = absurd (omega arith)
    go true true true true false g h p q r s t u e = absurd (omega arith)
    go true true true true true false h p q r s t u e = absurd (omega arith)
    go true true true true true true h p q r s t u e =
        let same-raws = eqb-true lines raws r in
        let same-answers = eqb-true lines answers s in
        let room = leb-true values lines t in
        record {
          short = leb-true bytes file_limit p;
          few = leb-true values most_taps q;
          lines-room = room;
          raws-room = omega arith;
          answers-room = omega arith;
          taps-room = leb-true values taps u;
        }
