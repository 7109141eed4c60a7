-- From an outcome to the answer that stands for it. Assumes nothing.
use Rattle.std.specs.Option.{ok_or}
use Rattle.std.specs.Result.{IsErrAnd}
use Rattle.std.proofs.lemmas.Result.{err_from_is_err_and}
use Rattle.std.specs.Prelude.{◌≡◌, refl, true, false, not, is_some, is_none, Option, Some, None, Ok, Err, Bool, List, [], ◌∷◌, map, ℕ, ℤ}
use Rattle.std.proofs.Common.{sym, ◌∙◌}
use Rattle.std.proofs.Math.Path.{ap}
use Rattle.format.specs.declared.refusal.Refusal.{Refusal}
use Rattle.format.specs.declared.refusal.Refusal.TheVariants.{WrongWidth, WrongFrac, WrongRadix, TooLong, WrongLength, Overflow, NoDigits, MisplacedSign, InvalidDigit, MisplacedUnderscore, TooManyPoints, ExpInvalidDigit, ExpNoDigits, TooManyExp, ExpOverflow, NotANumber, ZeroDivisor, NotPositive, WrongTaps, TooManyValues}
use Rattle.format.specs.Meaning.{number, named, Refuses, Sign, settle, Kind, Answered, unless, Outcome, done, refused, answered}
use Rattle.format.specs.declared.Manner.{Manner}
use Rattle.format.specs.Settle.{unless-fault, unless-none}

module _ {A : Type 0} (c : Kind A) {o : Outcome} where
  pub done-answered : {y : A} {z : ℤ} {f : Bool} → o ≡ done z f → y ≡ c.raw_of z → Ok (record { raw = y; flag = f }) ≡ answered c o
  unfolding answered
  done-answered {f = f} e q = rw (e, q)

  pub refused-answered : {n : ℕ} → o ≡ refused n → Err (named n) ≡ answered c o
  unfolding answered
  refused-answered e = rw e

-- a refusal is answered; without one the outcome is
module _ {A : Type 0} (c : Kind A) (n : ℕ) (o : Outcome) where
  pub fault-answered : {e : Refusal} → Refuses n e → Err e ≡ answered c (unless n o)
  fault-answered r = ap Err r.named_is ∙ refused-answered c (unless-fault n o r.fault)

  pub pass-answered : {r : Answered A} → n ≡ 0 → r ≡ answered c o → r ≡ answered c (unless n o)
  pass-answered z q = q ∙ ap (answered c) (sym (unless-none n o z))

  -- at the exit of a `?`
  pub exit-answered : {e : Refusal} (r : Answered A) → IsErrAnd r (λ d. d ≡ e) → Refuses n e → r ≡ answered c (unless n o)
  exit-answered r h q = let p = err_from_is_err_and r h in p.1 ∙ ap Err p.2 ∙ fault-answered q

-- what `ok_or` says of an option that is none
pub none-or : {T E : Type 0} (o : Option T) {e d : E} → Err e ≡ ok_or o d → (o ≡ None) × (e ≡ d)
none-or (Some x) q = cc
none-or None q = (refl, cc)

-- what `is_none` says
pub none-not : {T : Type 0} (o : Option T) (b : Bool) → is_some o ≡ not b → b ≡ is_none o
none-not (Some x) true q = q
none-not (Some x) false q = refl
none-not None true q = refl
none-not None false q = q

-- the manner that a match found
pub at-manner : (s : Sign) (w : ℕ) (x : ℤ) {j k : Manner} {o : Outcome} → k ≡ j → settle j s w x ≡ o → settle k s w x ≡ o
at-manner s w x e q = rw e q

-- each refusal is found again by its number, so no two have the same
pub named-number : (e : Refusal) → named (number e) ≡ e
unfolding named number
named-number WrongWidth = refl
named-number WrongFrac = refl
named-number WrongRadix = refl
named-number TooLong = refl
named-number WrongLength = refl
named-number Overflow = refl
named-number NoDigits = refl
named-number MisplacedSign = refl
named-number InvalidDigit = refl
named-number MisplacedUnderscore = refl
named-number TooManyPoints = refl
named-number ExpInvalidDigit = refl
named-number ExpNoDigits = refl
named-number TooManyExp = refl
named-number ExpOverflow = refl
named-number NotANumber = refl
named-number ZeroDivisor = refl
named-number NotPositive = refl
named-number WrongTaps = refl
named-number TooManyValues = refl

-- the numbers of the table that stand for a refusal
abbrev pub table : List ℕ
table =
    1 ∷ 2 ∷ 3 ∷ 4 ∷ 5 ∷ 10 ∷ 11 ∷ 12 ∷ 13 ∷ 14 ∷ 15 ∷ 16 ∷ 17 ∷ 18 ∷ 19 ∷ 30 ∷ 31 ∷ 32 ∷ 40 ∷ 41 ∷ []

-- each of them is found again by its refusal, so no two share one
pub number-named : map (λ n. number (named n)) table ≡ table
unfolding number named
number-named = refl
