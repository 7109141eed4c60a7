-- What each public function promises of its answer r, by name, and what the promise leaves open: an answer is settled
-- by the digits that it stands for, so two answers that meet it stand for the same ones. Assumes nothing.
use Rattle.std.specs.Prelude.{◌≡◌, List, ℕ, length, take, drop, ℤ, Option}
use Rattle.laws.specs.Lists.{part}
use Rattle.digits.specs.Meaning.{digits_of}
use Rattle.laws.specs.Unique.{unique}
use Rattle.digits_exp.specs.declared.Span.{Span}
use Rattle.digits_exp.specs.declared.DigitsExp.{DigitsExp}
use Rattle.digits_exp.specs.declared.IntFrac.{IntFrac}
use Rattle.digits_exp.specs.Meaning.{digits_exp_of, moved_int, moved_frac, StandsExp}
use Rattle.digits_exp.specs.Meaning.{StandsDropped, first_digits, RestIs}

abbrev pub ViewOf : List ℕ → Span → List ℕ → Type 0
ViewOf text s r = r ≡ part text s.from s.to

pub view-of-unique : (text : List ℕ) (s : Span) {p q : List ℕ} → ViewOf text s p → ViewOf text s q → p ≡ q
view-of-unique text s e f = unique e f

abbrev pub NewIntFrac : List ℕ → ℕ → ℕ → ℕ → ℕ → ℤ → IntFrac → Type 0
NewIntFrac text a b c d e r =
    StandsDropped text r
    (moved_int e (digits_of (part text a b)) (digits_of (part text c d)))
    (moved_frac e (digits_of (part text a b)) (digits_of (part text c d)))

pub new-int-frac-unique : (text : List ℕ) (a b c d : ℕ) (e : ℤ) {r s : IntFrac} → NewIntFrac text a b c d e r
    → NewIntFrac text a b c d e s
    → (digits_exp_of text r.int ≡ digits_exp_of text s.int)
    × (digits_exp_of text r.frac ≡ digits_exp_of text s.frac)
new-int-frac-unique text a b c d e x y = (unique x.int.same y.int.same, unique x.frac.same y.frac.same)

abbrev pub LenExp : List ℕ → DigitsExp → ℕ → Type 0
LenExp text x r = r ≡ length (digits_exp_of text x)

pub len-exp-unique : (text : List ℕ) (x : DigitsExp) {r s : ℕ} → LenExp text x r → LenExp text x s → r ≡ s
len-exp-unique text x e f = unique e f

pub record SplitAt (text : List ℕ) (x : DigitsExp) (mid : ℕ) (r : DigitsExp × DigitsExp) : Type 0 where
  pub first : StandsExp text r.0 (take mid (digits_exp_of text x))
  pub last : StandsExp text r.1 (drop mid (digits_exp_of text x))

pub split-at-unique : (text : List ℕ) (x : DigitsExp) (mid : ℕ) {r s : DigitsExp × DigitsExp} → SplitAt text x mid r
    → SplitAt text x mid s
    → (digits_exp_of text r.0 ≡ digits_exp_of text s.0)
    × (digits_exp_of text r.1 ≡ digits_exp_of text s.1)
split-at-unique text x mid p q = (unique p.first.same q.first.same, unique p.last.same q.last.same)

pub record SplitFirst (text : List ℕ) (x : DigitsExp) (r : Option (ℕ × DigitsExp)) : Type 0 where
  pub same : first_digits text r ≡ digits_exp_of text x
  pub is : RestIs text r

pub split-first-unique : (text : List ℕ) (x : DigitsExp) {r s : Option (ℕ × DigitsExp)} → SplitFirst text x r
    → SplitFirst text x s
    → first_digits text r ≡ first_digits text s
split-first-unique text x p q = unique p.same q.same
