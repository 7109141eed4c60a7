-- What is written reads back: from the writer's and the reader's promises alone. Assumes nothing.
use Rattle.std.specs.Prelude.{◌≡◌, Ok, Err, Bool, List, ℕ, ◌≤◌, ℤ, length, take}
use Rattle.std.proofs.Math.Path.{sym, ap}
use Rattle.std.proofs.Common.{◌∙◌, subst}
use Rattle.std.proofs.Math.Bool.{false}
use borrow.Author.Tests.{le-leb, eq-eqb}
use Rattle.format.specs.declared.Manner.{Manner}
use Rattle.format.specs.declared.refusal.Refusal.{Refusal}
use Rattle.format.specs.Meaning.{Sign, Kind, Answered, fault_of, answered, guarded}
use Rattle.format.specs.Theorems.{InRange}
use Rattle.grammar.specs.Meaning.{read_of}
use Rattle.decimal.specs.Meaning.{raw_text, put, write_of}
use Rattle.decimal.specs.Promise.{Write}
use Rattle.decimal.specs.Theorems.{written-reads}

-- the format is one, holds the raw, and the buffer has room for its text
pub record Fine (s : Sign) (raw : ℤ) (w f : ℕ) (out : List ℕ) : Type 0 where
  pub format : fault_of w f ≡ 0
  pub holds : InRange s w raw
  pub room : length (raw_text raw f) ≤ length out

module _ {A : Type 0} (c : Kind A) where
  -- then: the raw again, which is the raw of its number
  abbrev pub SameRaw : A → ℕ → ℕ → List ℕ → Answered A → Type 0
  SameRaw raw w f out r = Fine c.sign (c.number_of raw) w f out → r ≡ Ok (record { raw = c.raw_of (c.number_of raw); flag = false })

  -- the first n bytes, or all
  abbrev pub ReadBack : List ℕ → ℕ → ℕ → ℕ → Manner → Answered A → Type 0
  ReadBack t n w f k r = r ≡ answered c (read_of k c.sign w f 10 (take n t))

module _ {A : Type 0} (c : Kind A) (raw : A) (w f : ℕ) (out : List ℕ) {a : Answered ℕ} {left : List ℕ} (p : Write c raw w f out a left) where
  pub read_again : (k : Manner) {n : ℕ} {flag : Bool} {r : Answered A} → a ≡ Ok (record { raw = n; flag = flag }) → ReadBack c left n w f k r
      → SameRaw c raw w f out r
  unfolding answered
  read_again k {n} {flag} e q fine =
      q ∙ ap (answered c) (written-reads c raw w f out left n flag k c.sign (subst (λ (x : Answered ℕ). Write c raw w f out x left) e p) fine.holds)

  pub never-refused : {e : Refusal} {r : Answered A} → a ≡ Err e → SameRaw c raw w f out r
  unfolding write_of put guarded answered
  never-refused {e} h fine =
      let clash : ◌≡◌ {A = Answered ℕ} (Err e) (Ok (record { raw = length (raw_text (c.number_of raw) f); flag = false })) = sym h ∙ p.0
      ∙ simp (eq-eqb (fault_of w f) 0 fine.format, le-leb (length (raw_text (c.number_of raw) f)) (length out) fine.room) in
      cc
