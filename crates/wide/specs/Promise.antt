-- What each function promises, by name: an equation between the numbers that the words stand for. Each
-- settles its answer (`unique`). Assumes nothing.
use Rattle.std.specs.Prelude.{◌≡◌, ℕ, ◌+◌, ◌-◌, ◌*◌, ◌/◌, ◌%◌, ◌^◌, Bool, nat_lt}
use Rattle.std.proofs.Common.{sym, ◌∙◌}
use Rattle.wide.specs.declared.Wide.{Wide}
use Rattle.wide.specs.declared.Quotient.{Quotient}
use Rattle.wide.specs.Meaning.{value_of, Words}
use Rattle.wide.specs.Theorems.{same-value}

-- mul
abbrev pub Product : ℕ → ℕ → Wide → Type 0
Product a b r = value_of r ≡ a * b

-- add
abbrev pub Sum : Wide → Wide → Wide → Type 0
Sum x y r = value_of r ≡ value_of x + value_of y

-- sub
abbrev pub Difference : Wide → Wide → Wide → Type 0
Difference x y r = value_of r ≡ value_of x - value_of y

-- less
abbrev pub Less : Wide → Wide → Bool → Type 0
Less x y r = r ≡ nat_lt (value_of x) (value_of y)

-- div
pub record Divided (x : Wide) (d : ℕ) (r : Quotient) : Type 0 where
  pub quotient : value_of r.quotient ≡ value_of x / d
  pub rest : r.rest ≡ value_of x % d

-- shl
abbrev pub ShiftedLeft : Wide → ℕ → Wide → Type 0
ShiftedLeft x k r = value_of r ≡ value_of x * 2 ^ k % 2 ^ 128

-- shr
abbrev pub ShiftedRight : Wide → ℕ → Wide → Type 0
ShiftedRight x k r = value_of r ≡ value_of x / 2 ^ k

-- shl_word
abbrev pub Scaled : ℕ → ℕ → ℕ → Type 0
Scaled x k r = r ≡ x * 2 ^ k

-- two answers that meet a promise are equal
module _ {r s : Wide} (v : Words r) (w : Words s) where
  pub mul-unique : (a b : ℕ) → Product a b r → Product a b s → r ≡ s
  mul-unique a b p q = same-value v w (p ∙ sym q)

  pub add-unique : (x y : Wide) → Sum x y r → Sum x y s → r ≡ s
  add-unique x y p q = same-value v w (p ∙ sym q)

  pub sub-unique : (x y : Wide) → Difference x y r → Difference x y s → r ≡ s
  sub-unique x y p q = same-value v w (p ∙ sym q)

  pub shl-unique : (x : Wide) (k : ℕ) → ShiftedLeft x k r → ShiftedLeft x k s → r ≡ s
  shl-unique x k p q = same-value v w (p ∙ sym q)

  pub shr-unique : (x : Wide) (k : ℕ) → ShiftedRight x k r → ShiftedRight x k s → r ≡ s
  shr-unique x k p q = same-value v w (p ∙ sym q)

pub less-unique : {r s : Bool} (x y : Wide) → Less x y r → Less x y s → r ≡ s
less-unique x y p q = p ∙ sym q

pub div-unique : {r s : Quotient} (x : Wide) (d : ℕ) → Words r.quotient → Words s.quotient → Divided x d r
    → Divided x d s → r ≡ s
div-unique x d v w p q =
    let e = same-value v w (p.quotient ∙ sym q.quotient) in
    let f = p.rest ∙ sym q.rest in
    λ i. record { quotient = e i; rest = f i }

pub shl-word-unique : {r s : ℕ} (x k : ℕ) → Scaled x k r → Scaled x k s → r ≡ s
shl-word-unique x k p q = p ∙ sym q
