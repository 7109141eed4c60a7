-- A value that a line gives is a number of 16 bits, and what stands for it in the list. Assumes nothing.
use Rattle.std.specs.Prelude.{◌≡◌, Result, Ok, Err, Bool, true, false, cond, List, ℕ, leb, ℤ, pos, length, refl}
use Rattle.std.proofs.Common.{sym, ap, arith, lit<, SFits}
use Rattle.std.specs.Int.{w16}
use Rattle.format.specs.declared.Answer.{Answer}
use Rattle.format.specs.declared.Manner.TheVariants.{Strict}
use Rattle.format.specs.declared.refusal.Refusal.{Refusal}
use Rattle.format.specs.Meaning.{number as number_of}
use Rattle.format.specs.Meaning.{number_in, value_in, signed, signed_kind, Outcome, done, refused, Answered, answered, fault_of, is_width, with_sign, guarded}
use Rattle.format.specs.Theorems.{InRange}
use Rattle.format.proofs.Theorems.{settle-in}
use Rattle.grammar.specs.Meaning.{Reading, number, unread, literal_radix, literal_reading, raw_of, outcome_of, text_limit, literal_of}
use Rattle.filter.specs.Range.{sample-sfits}
use Rattle.value_lines.specs.Meaning.{value_line, answer_of, raw_at, number_at}

-- what a line gives: a raw, or its refusal
unfoldable pub raw_alone : Answered ℤ → Result ℤ Refusal
raw_alone (Ok a) = Ok a.raw
raw_alone (Err e) = Err e

abbrev pub line_value : List ℕ → Result ℤ Refusal
line_value line = raw_alone (answer_of line)

reading-in : (radix : ℕ) (r : Reading) (x : ℤ) (f : Bool) → outcome_of Strict signed 16 15 radix r ≡ done x f → InRange signed 16 x
unfolding outcome_of
reading-in radix (unread n) x f e = let z : ◌≡◌ {A = ℕ} 0 1 = cc in absurd (omega arith)
reading-in radix (number w) x f e = settle-in Strict signed 16 (with_sign w.neg (raw_of radix 15 w)) x f (lit< tt) e

pub literal-in : (line : List ℕ) (x : ℤ) (f : Bool) → literal_of signed 16 15 line ≡ done x f → InRange signed 16 x
unfolding literal_of guarded fault_of is_width
literal-in line x f e = go (leb (length line) text_limit) e
  where
    go : (t : Bool) → cond t (outcome_of Strict signed 16 15 (literal_radix signed line) (literal_reading signed line)) (refused 4) ≡ done x f
        → InRange signed 16 x
    go true e = reading-in (literal_radix signed line) (literal_reading signed line) x f e
    go false e = let z : ◌≡◌ {A = ℕ} 0 1 = cc in absurd (omega arith)

answer-done : (o : Outcome) (a : Answer ℤ) → answered signed_kind o ≡ Ok a → o ≡ done a.raw a.flag
unfolding answered
answer-done (done x f) a e = cc
answer-done (refused n) a e = cc

-- the answer that was found
module _ (line : List ℕ) where
  pub value-fits : {a : Answer ℤ} → Ok a ≡ answered signed_kind (literal_of signed 16 15 line) → SFits w16 a.raw
  value-fits {a} is = sample-sfits a.raw (literal-in line a.raw a.flag (answer-done (literal_of signed 16 15 line) a (sym is)))

  pub value-done : {a : Answer ℤ} {x : ℤ} → Ok a ≡ answered signed_kind (literal_of signed 16 15 line) → x ≡ a.raw → Ok x ≡ line_value line
  unfolding raw_alone answer_of
  value-done is e = rw (← is, e)

  pub value-refused : {e : Refusal} → Err e ≡ answered signed_kind (literal_of signed 16 15 line) → Err e ≡ line_value line
  unfolding raw_alone answer_of
  value-refused is = rw (← is)

  -- and what stands for it in the list
  pub value-held : (n : ℕ) {x : ℤ} → Ok x ≡ line_value line → (x ≡ raw_at (value_line n line)) × (0 ≡ number_at (value_line n line))
  unfolding raw_at number_at raw_alone value_in number_in
  value-held n {x} = go (answer_of line)
    where
      go : (a : Answered ℤ) → Ok x ≡ raw_alone a → (x ≡ value_in signed_kind a) × (0 ≡ number_in a)
      go (Ok a) e = (cc, refl)
      go (Err d) e = cc

  pub refusal-held : (n : ℕ) {d : Refusal} → Err d ≡ line_value line → (pos 0 ≡ raw_at (value_line n line)) × (number_of d ≡ number_at (value_line n line))
  unfolding raw_at number_at raw_alone value_in number_in
  refusal-held n {d} = go (answer_of line)
    where
      go : (a : Answered ℤ) → Err d ≡ raw_alone a → (pos 0 ≡ value_in signed_kind a) × (number_of d ≡ number_in a)
      go (Ok a) e = cc
      go (Err c) e = let same : d ≡ c = cc in (refl, ap number_of same)
