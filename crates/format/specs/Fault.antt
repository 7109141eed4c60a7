-- The checks of a format: what each outcome of the tests makes of `fault_of`, and what no fault tells. Assumes nothing.
use Rattle.std.specs.Prelude.{◌≡◌, refl, Bool, true, false, cond, ◌||◌, ℕ, suc, ◌+◌, ◌-◌, ◌^◌, ◌≤◌, ◌<◌, leb, eqb}
use Rattle.std.proofs.Common.{sym, ap, ◌∙◌, pow-suc, pow_mono, arith, le-leb, leb-true, eqb-true}
use Rattle.std.proofs.lemmas.Bool.{false≢true, lt-leb}
use Rattle.format.specs.Meaning.{fault_of}
use Rattle.format.specs.Meaning.{is_width}

pub fault-width : (w f : ℕ) {b : Bool} → b ≡ is_width w → b ≡ false → 1 ≡ fault_of w f
unfolding fault_of
fault-width w f e t = rw (sym e ∙ t)

pub fault-frac : (w f : ℕ) {b : Bool} → b ≡ is_width w → b ≡ true → w < f → 2 ≡ fault_of w f
unfolding fault_of
fault-frac w f e t h = simp (sym e ∙ t, lt-leb f w h)

pub fault-none : (w f : ℕ) {b : Bool} → b ≡ is_width w → b ≡ true → f ≤ w → 0 ≡ fault_of w f
unfolding fault_of
fault-none w f e t h = simp (sym e ∙ t, le-leb f w h)

-- a width is some bits, and at most a word
pub width-bounds : (w : ℕ) → is_width w ≡ true → (8 ≤ w) × (w ≤ 64)
unfolding is_width
width-bounds w h = go (eqb w 8) (eqb w 16) (eqb w 32) (eqb w 64) refl refl refl refl h
  where
    is : (n : ℕ) → 8 ≤ n → n ≤ 64 → w ≡ n → (8 ≤ w) × (w ≤ 64)
    is n l u e = (omega arith, omega arith)

    go : (a b c d : Bool) → eqb w 8 ≡ a → eqb w 16 ≡ b → eqb w 32 ≡ c → eqb w 64 ≡ d → (a || b || c || d) ≡ true → (8 ≤ w) × (w ≤ 64)
    go true b c d e f g h t = is 8 (omega arith) (omega arith) (eqb-true w 8 e)
    go false true c d e f g h t = is 16 (omega arith) (omega arith) (eqb-true w 16 f)
    go false false true d e f g h t = is 32 (omega arith) (omega arith) (eqb-true w 32 g)
    go false false false true e f g h t = is 64 (omega arith) (omega arith) (eqb-true w 64 h)
    go false false false false e f g h t = absurd (false≢true t)

-- two halves make 2^W, and a half is at most half a word
pub halves : (w : ℕ) → 0 < w → 2 ^ (w - 1) + 2 ^ (w - 1) ≡ 2 ^ w
halves w h =
    let e : w ≡ suc (w - 1) = omega arith in
    omega (arith, ap (λ (k : ℕ). 2 ^ k) e ∙ pow-suc 2 (w - 1))

pub half-word : (w : ℕ) → w ≤ 64 → 2 ^ (w - 1) ≤ 2 ^ 63
half-word w h = pow_mono {i = w - 1} {j = 63} (omega arith)

-- where there is no fault, the width is one of the four and the fraction bits are at most the width
pub fault-free : (w f : ℕ) → fault_of w f ≡ 0 → (is_width w ≡ true) × (f ≤ w)
unfolding fault_of
fault-free w f = go (is_width w) (leb f w) refl
  where
    go : (a b : Bool) → leb f w ≡ b → ◌≡◌ {A = ℕ} (cond a (cond b 0 2) 1) 0 → (a ≡ true) × (f ≤ w)
    go true true e h = (refl, leb-true f w e)
    go true false e h = absurd (omega arith)
    go false b e h = absurd (omega arith)

-- so the fraction bits are at most a word's
pub frac-word : (w f : ℕ) {fault : ℕ} → fault ≡ fault_of w f → fault ≡ 0 → f ≤ 64
frac-word w f e z = let free = fault-free w f (sym e ∙ z) in omega (arith, free.1, width-bounds w free.0)
