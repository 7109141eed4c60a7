-- What a format is, which raws it has, and what becomes of an exact number in each manner:
-- document 01, "Domain and numbers". Assumes nothing.
use Rattle.std.specs.Prelude.{◌≡◌, ◌≢◌, Result, Ok, Err, Bool, ◌||◌, true, false, cond, not, ◌&&◌, ℕ, ◌-◌, ◌*◌, ◌+◌}
use Rattle.std.specs.Prelude.{◌^◌, leb, eqb, ℤ, pos, neg_ℤ, ◌-ℤ◌, ◌*ℤ◌}
use Rattle.std.specs.Int.Signed.{le_z, lt_z}
use Rattle.laws.specs.Diff.{up}
use Rattle.laws.specs.Floor.{floor}
use Rattle.format.specs.declared.Manner.{Manner}
use Rattle.format.specs.declared.Manner.TheVariants.{Strict, Saturating, Wrapping, Overflowing}
use Rattle.format.specs.declared.Answer.{Answer}
use Rattle.format.specs.declared.refusal.Refusal.{Refusal}
use Rattle.format.specs.declared.refusal.Refusal.TheVariants.{WrongWidth, WrongFrac, WrongRadix, TooLong, WrongLength}
use Rattle.format.specs.declared.refusal.Refusal.TheVariants.{Overflow, NoDigits, MisplacedSign, InvalidDigit}
use Rattle.format.specs.declared.refusal.Refusal.TheVariants.{MisplacedUnderscore, TooManyPoints, ExpInvalidDigit}
use Rattle.format.specs.declared.refusal.Refusal.TheVariants.{ExpNoDigits, TooManyExp, ExpOverflow, NotANumber}
use Rattle.format.specs.declared.refusal.Refusal.TheVariants.{ZeroDivisor, NotPositive, WrongTaps, TooManyValues}

-- "A format is a width W (8, 16, 32 or 64), signed or unsigned, and F fraction bits, 0 to W."
pub data Sign : Type 0 where
  signed : Sign
  unsigned : Sign

unfoldable pub is_width : ℕ → Bool
is_width w = eqb w 8 || eqb w 16 || eqb w 32 || eqb w 64

-- the first refusal of a format, 0 for none: "1: W is not one of the four", "2: F above W"
unfoldable pub fault_of : ℕ → ℕ → ℕ
fault_of w f = cond (is_width w) (cond (leb f w) 0 2) 1

-- "A signed raw runs from -2^(W-1) to 2^(W-1)-1, an unsigned one from 0 to 2^W-1."
unfoldable pub lowest : Sign → ℕ → ℤ
lowest signed w = neg_ℤ (pos (2 ^ (w - 1)))
lowest unsigned w = pos 0

unfoldable pub highest : Sign → ℕ → ℤ
highest signed w = pos (2 ^ (w - 1) - 1)
highest unsigned w = pos (2 ^ w - 1)

unfoldable pub fits : Sign → ℕ → ℤ → Bool
fits s w x = le_z (lowest s w) x && le_z x (highest s w)

-- "x held to the nearer end of the range"
unfoldable pub hold : Sign → ℕ → ℤ → ℤ
hold s w x = cond (lt_z x (lowest s w)) (lowest s w) (cond (lt_z (highest s w) x) (highest s w) x)

-- "the raw congruent to x modulo 2^W": x less a whole number of 2^W
unfoldable pub wrap : Sign → ℕ → ℤ → ℤ
wrap s w x = x -ℤ floor (x -ℤ lowest s w) (2 ^ w) *ℤ pos (2 ^ w)

-- An outcome is a number with a flag, or a refusal.
pub data Outcome : Type 0 where
  done : ℤ → Bool → Outcome
  refused : ℕ → Outcome

-- "Let x be the exact result already rounded to an integer raw"
unfoldable pub settle : Manner → Sign → ℕ → ℤ → Outcome
settle Strict s w x = cond (fits s w x) (done x false) (refused 10)
settle Saturating s w x = done (hold s w x) false
settle Wrapping s w x = done (wrap s w x) false
settle Overflowing s w x = done (wrap s w x) (not (fits s w x))

-- A refusal, where there is one (0 for none), goes before what is done: of a call that
-- leaves more than an answer, and of an outcome.
unfoldable pub guarded : {A : Type 0} → ℕ → (ℕ → A) → A → A
guarded fault refusal result = cond (eqb fault 0) result (refusal fault)

abbrev pub unless : ℕ → Outcome → Outcome
unless n o = guarded n refused o

-- an exact number, as a sign and a magnitude; and the magnitude as two words
unfoldable pub with_sign : Bool → ℕ → ℤ
with_sign true m = neg_ℤ (pos m)
with_sign false m = pos m

abbrev pub exact : Bool → ℕ → ℕ → ℤ
exact neg high low = with_sign neg (high * 2 ^ 64 + low)

-- a format is signed or not
unfoldable pub sign_by : Bool → Sign
sign_by true = signed
sign_by false = unsigned

-- ---- The refusals, with their numbers in the table of answers.
-- the number of a refusal in the table
unfoldable pub number : Refusal → ℕ
number WrongWidth = 1
number WrongFrac = 2
number WrongRadix = 3
number TooLong = 4
number WrongLength = 5
number Overflow = 10
number NoDigits = 11
number MisplacedSign = 12
number InvalidDigit = 13
number MisplacedUnderscore = 14
number TooManyPoints = 15
number ExpInvalidDigit = 16
number ExpNoDigits = 17
number TooManyExp = 18
number ExpOverflow = 19
number NotANumber = 30
number ZeroDivisor = 31
number NotPositive = 32
number WrongTaps = 40
number TooManyValues = 41

-- the refusal of a number of the table; any other number has none, and is taken for the last
unfoldable pub named : ℕ → Refusal
named n =
    cond (eqb n 1) WrongWidth
    (cond (eqb n 2) WrongFrac
    (cond (eqb n 3) WrongRadix
    (cond (eqb n 4) TooLong
    (cond (eqb n 5) WrongLength
    (cond (eqb n 10) Overflow
    (cond (eqb n 11) NoDigits
    (cond (eqb n 12) MisplacedSign
    (cond (eqb n 13) InvalidDigit
    (cond (eqb n 14) MisplacedUnderscore
    (cond (eqb n 15) TooManyPoints
    (cond (eqb n 16) ExpInvalidDigit
    (cond (eqb n 17) ExpNoDigits
    (cond (eqb n 18) TooManyExp
    (cond (eqb n 19) ExpOverflow
    (cond (eqb n 30) NotANumber
    (cond (eqb n 31) ZeroDivisor
    (cond (eqb n 32) NotPositive
    (cond (eqb n 40) WrongTaps
    TooManyValues))))))))))))))))))

-- What the code calls a raw, an i64 in a signed format and a u64 in an unsigned one: the number that a raw stands for,
-- and the raw of a number.
pub record Kind (A : Type 0) : Type 0 where
  pub sign : Sign
  pub number_of : A → ℤ
  pub raw_of : ℤ → A

abbrev pub signed_kind : Kind ℤ
signed_kind = record { sign = signed; number_of = λ x. x; raw_of = λ x. x }

abbrev pub unsigned_kind : Kind ℕ
unsigned_kind = record { sign = unsigned; number_of = pos; raw_of = up }

-- The answers of the code stand for outcomes. An unsigned outcome is never negative (Theorems: `settle-unsigned`).
abbrev pub Answered : Type 0 → Type 0
Answered A = Result (Answer A) Refusal

unfoldable pub answered : {A : Type 0} → Kind A → Outcome → Answered A
answered k (done x f) = Ok (record { raw = k.raw_of x; flag = f })
answered k (refused n) = Err (named n)

-- A value, or the refusal of a number, 0 for none.
unfoldable pub checked : {A : Type 0} → ℕ → A → Result A Refusal
checked n a = guarded n (λ m. Err (named m)) (Ok a)

-- What a check leaves to those who go on: n is the number of the first refusal, 0 for none: there is none, and this is
-- the format
pub record LetsThrough (n w f : ℕ) (width frac : ℕ) : Type 0 where
  pub free : n ≡ 0
  pub width_is : width ≡ w
  pub frac_is : frac ≡ f

-- there is one, and this is its name
pub record Refuses (n : ℕ) (e : Refusal) : Type 0 where
  pub fault : n ≢ 0
  pub named_is : e ≡ named n

-- Number, value and flag of an answer: "Every refusal has value 0, flag clear".
unfoldable pub number_in : {A : Type 0} → Answered A → ℕ
number_in (Ok a) = 0
number_in (Err e) = number e

unfoldable pub value_in : {A : Type 0} → Kind A → Answered A → A
value_in k (Ok a) = a.raw
value_in k (Err e) = k.raw_of (pos 0)

unfoldable pub flag_in : {A : Type 0} → Answered A → Bool
flag_in (Ok a) = a.flag
flag_in (Err e) = false
