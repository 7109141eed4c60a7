-- The promises of the public functions, each an equation, and that each settles its answer. Assumes nothing.
use Rattle.std.specs.Prelude.{◌≡◌, refl, Result, Bool, true, false, ℕ, ℤ, nat_abs}
use Rattle.laws.specs.Unique.{unique}
use Rattle.format.specs.declared.Manner.{Manner}
use Rattle.format.specs.declared.refusal.Refusal.{Refusal}
use Rattle.format.specs.Meaning.{Kind, Sign, Answered, fault_of, unless, settle, exact, answered, checked}
use Rattle.format.specs.Meaning.{is_width, sign_by}

abbrev pub IsWidth : ℕ → Bool → Type 0
IsWidth w r = r ≡ is_width w

abbrev pub Check : ℕ → ℕ → Result Unit Refusal → Type 0
Check w f r = r ≡ checked (fault_of w f) tt

-- |x|: 2^63 for the least of the signed raws
abbrev pub Magnitude : ℤ → ℕ → Type 0
Magnitude x r = r ≡ nat_abs x

abbrev pub Settle : {A : Type 0} → Kind A → Bool → ℕ → ℕ → ℕ → ℕ → Manner → Answered A → Type 0
Settle c neg high low w f k r = r ≡ answered c (unless (fault_of w f) (settle k c.sign w (exact neg high low)))

pub is-width-unique : (w : ℕ) (r s : Bool) → IsWidth w r → IsWidth w s → r ≡ s
is-width-unique w r s p q = unique p q

pub check-unique : (w f : ℕ) (r s : Result Unit Refusal) → Check w f r → Check w f s → r ≡ s
check-unique w f r s p q = unique p q

pub magnitude-unique : (x : ℤ) (r s : ℕ) → Magnitude x r → Magnitude x s → r ≡ s
magnitude-unique x r s p q = unique p q

-- whether a raw's formats are signed is settled by their sign
pub signed-unique : (s : Sign) (p q : Bool) → sign_by p ≡ s → sign_by q ≡ s → p ≡ q
unfolding sign_by
signed-unique s true true e f = refl
signed-unique s true false e f = cc
signed-unique s false true e f = cc
signed-unique s false false e f = refl

module _ {A : Type 0} (c : Kind A) (neg : Bool) (high low w f : ℕ) (k : Manner) where
  pub settle-unique : (r s : Answered A) → Settle c neg high low w f k r
      → Settle c neg high low w f k s → r ≡ s
  settle-unique r s p q = unique p q
