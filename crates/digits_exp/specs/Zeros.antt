-- Dropping zeros of two lists of digits, one after the other: the first goes whole, or the second stays whole. From behind it is the same, mirrored.
-- Assumes nothing.
use Rattle.std.proofs.Math.Path.{◌≡◌, refl, ap}
use Rattle.std.proofs.Common.{sym, ◌∙◌, arith, take_at, drop_at, eq-eqb, ne_eqb}
use Rattle.std.specs.Prelude.{Bool, ℕ, zero, suc, ◌+◌, ◌-◌, ◌≤◌, length, take, drop, eqb}
use Rattle.std.proofs.Math.Bool.{true, false, cond}
use mathlib.Core.List.{List, [], ◌∷◌, ◌++◌, reverse, reverse-append, reverse-reverse}
use Rattle.std.proofs.lemmas.List.{length-replicate, replicate-append-replicate}
use Rattle.laws.specs.Text.{zeros}
use Rattle.digits.specs.Meaning.{is_zero, drop_while, drop_back}
use Rattle.digits.specs.Runs.{replicate-reverse}

module _ (p : ℕ → Bool) where
  pub while-append-none : (s t : List ℕ) → drop_while p s ≡ [] → drop_while p (s ++ t) ≡ drop_while p t
  unfolding drop_while
  while-append-none [] t e = refl
  while-append-none (b ∷ s) t e = go (p b) (while-append-none s t) e
    where
      go : (u : Bool) → (drop_while p s ≡ [] → drop_while p (s ++ t) ≡ drop_while p t) → cond u (drop_while p s) (b ∷ s) ≡ []
          → cond u (drop_while p (s ++ t)) (b ∷ (s ++ t)) ≡ drop_while p t
      go true k q = k q
      go false k q = let z : ◌≡◌ {A = ℕ} 0 1 = cc in absurd (omega arith)

  pub while-append-some : (s t : List ℕ) → (drop_while p s ≡ [] → ⊥) → drop_while p (s ++ t) ≡ drop_while p s ++ t
  unfolding drop_while
  while-append-some [] t h = absurd (h refl)
  while-append-some (b ∷ s) t h = go (p b) (while-append-some s t) h
    where
      go : (u : Bool) → ((drop_while p s ≡ [] → ⊥) → drop_while p (s ++ t) ≡ drop_while p s ++ t) → (cond u (drop_while p s) (b ∷ s) ≡ [] → ⊥)
          → cond u (drop_while p (s ++ t)) (b ∷ (s ++ t)) ≡ cond u (drop_while p s) (b ∷ s) ++ t
      go true k q = k q
      go false k q = refl

  unreversed : (l : List ℕ) → reverse l ≡ [] → l ≡ []
  unreversed l e = sym (reverse-reverse l) ∙ ap reverse e

  pub back-append-none : (s t : List ℕ) → drop_back p t ≡ [] → drop_back p (s ++ t) ≡ drop_back p s
  unfolding drop_back
  back-append-none s t e =
      ap (λ (l : List ℕ). reverse (drop_while p l)) (reverse-append s t)
      ∙ ap reverse (while-append-none (reverse t) (reverse s) (unreversed (drop_while p (reverse t)) e))

  pub back-append-some : (s t : List ℕ) → (drop_back p t ≡ [] → ⊥) → drop_back p (s ++ t) ≡ s ++ drop_back p t
  unfolding drop_back
  back-append-some s t h =
      ap (λ (l : List ℕ). reverse (drop_while p l)) (reverse-append s t)
      ∙ ap reverse (while-append-some (reverse t) (reverse s) (λ e. h (ap reverse e)))
      ∙ reverse-append (drop_while p (reverse t)) (reverse s) ∙ ap (λ (l : List ℕ). l ++ reverse (drop_while p (reverse t))) (reverse-reverse s)

-- zeros alone go whole
pub zeros-while : (n : ℕ) → drop_while is_zero (zeros n) ≡ []
unfolding drop_while is_zero
zeros-while zero = refl
zeros-while (suc n) = zeros-while n

pub zeros-back : (n : ℕ) → drop_back is_zero (zeros n) ≡ []
unfolding drop_back
zeros-back n = ap (λ (l : List ℕ). reverse (drop_while is_zero l)) (replicate-reverse n 48) ∙ ap reverse (zeros-while n)

-- ---- a part of zeros is zeros
zeros-split : (k n : ℕ) → k ≤ n → zeros k ++ zeros (n - k) ≡ zeros n
zeros-split k n h = let e : k + (n - k) ≡ n = omega arith in replicate-append-replicate k (n - k) 48 ∙ ap zeros e

pub zeros-length : (n : ℕ) → length (zeros n) ≡ n
zeros-length n = length-replicate n 48

pub take-zeros : (k n : ℕ) → k ≤ n → take k (zeros n) ≡ zeros k
take-zeros k n h = ap (take k) (sym (zeros-split k n h)) ∙ take_at (zeros k) (zeros (n - k)) k (zeros-length k)

pub drop-zeros : (k n : ℕ) → k ≤ n → drop k (zeros n) ≡ zeros (n - k)
drop-zeros k n h = ap (drop k) (sym (zeros-split k n h)) ∙ drop_at (zeros k) (zeros (n - k)) k (zeros-length k)

-- ---- x zeros where there are digits before or after them, else none
unfoldable pub only_if : List ℕ → ℕ → ℕ
only_if [] x = 0
only_if (b ∷ l) x = x

pub only-if : (a b : List ℕ) (x : ℕ) {m n r : ℕ} → m ≡ length a → n ≡ length b → r ≡ cond (eqb m 0) (cond (eqb n 0) 0 x) x → r ≡ only_if (a ++ b) x
unfolding only_if
only-if [] [] x {m} {n} em en e = e ∙ rw (eq-eqb m 0 em, eq-eqb n 0 en)
only-if [] (y ∷ b) x {m} {n} em en e = e ∙ rw (eq-eqb m 0 em, ne_eqb n 0 (λ z. omega arith))
only-if (y ∷ a) b x {m} {n} em en e = e ∙ rw (ne_eqb m 0 (λ z. omega arith))

-- the integer: zeros in front go, and the x zeros behind stay where a digit is left
pub int-zeros : (d l : List ℕ) (x : ℕ) → d ≡ drop_while is_zero l → d ++ zeros (only_if d x) ≡ drop_while is_zero (l ++ zeros x)
unfolding only_if
int-zeros [] l x e = sym (while-append-none is_zero l (zeros x) (sym e) ∙ zeros-while x)
int-zeros (b ∷ d) l x e =
    ap (λ (k : List ℕ). k ++ zeros x) e ∙ sym (while-append-some is_zero l (zeros x) (λ q. let z : ◌≡◌ {A = ℕ} 0 1 = cc in omega arith))

-- the fraction
pub frac-zeros : (d l : List ℕ) (x : ℕ) → d ≡ drop_back is_zero l → zeros (only_if d x) ++ d ≡ drop_back is_zero (zeros x ++ l)
unfolding only_if
frac-zeros [] l x e = sym (back-append-none is_zero (zeros x) l (sym e) ∙ zeros-back x)
frac-zeros (b ∷ d) l x e =
    ap (λ (k : List ℕ). zeros x ++ k) e ∙ sym (back-append-some is_zero (zeros x) l (λ q. let z : ◌≡◌ {A = ℕ} 0 1 = cc in omega arith))
