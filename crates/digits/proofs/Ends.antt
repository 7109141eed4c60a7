-- The bytes of a run: what the library's chains count is what the meaning counts, what one byte more makes of the digits and of the place of a digit,
-- and the first and the last byte. Assumes nothing.
use Rattle.std.proofs.Common.{◌≡◌, refl, sym, ap, ◌∙◌, arith, add-one, drop-cons, drop_of_length-le, eq-eqb, ne_eqb, rules}
use Rattle.std.specs.Prelude.{Bool, true, false, cond, not, ℕ, ◌+◌, ◌-◌, ◌≤◌, ◌<◌, List, [], ◌∷◌, reverse, length, drop, get_or, filter, slice_get, Some}
use Rattle.std.specs.Prelude.{take_while as taken}
use Rattle.std.proofs.lemmas.List.{get_or-reverse, length-reverse}
use Rattle.std.proofs.lemmas.Option.{slice_get-get_or}
use Rattle.std.proofs.lemmas.List.Sums.{take_while-cons}
use Rattle.digits.specs.Meaning.{is_und, is_zero, digits_of, take_while, head_of, leading_zeros, first_of, last_of}

-- ---- the library's words
pub taken-is : (p : ℕ → Bool) (t : List ℕ) → taken p t ≡ take_while p t
unfolding take_while
taken-is p [] = refl
taken-is p (b ∷ t) = take_while-cons p b t ∙ ap (λ (l : List ℕ). cond (p b) (b ∷ l) []) (taken-is p t)

pub filtered-is : (t : List ℕ) → filter (λ (b : ℕ). not (is_und b)) t ≡ digits_of t
unfolding digits_of
filtered-is [] = refl
filtered-is (b ∷ t) = go (is_und b) (filtered-is t)
  where
    go : (u : Bool) → filter (λ (b : ℕ). not (is_und b)) t ≡ digits_of t
        → cond (not u) (b ∷ filter (λ (b : ℕ). not (is_und b)) t) (filter (λ (b : ℕ). not (is_und b)) t) ≡ cond u (digits_of t) (b ∷ digits_of t)
    go true e = e
    go false e = ap (λ (l : List ℕ). b ∷ l) e

pub zeros-counted : (t : List ℕ) → length (taken is_zero (filter (λ (b : ℕ). not (is_und b)) t)) ≡ leading_zeros (digits_of t)
unfolding leading_zeros
zeros-counted t = ap length (ap (taken is_zero) (filtered-is t) ∙ taken-is is_zero (digits_of t))

-- ---- the digits, and the place of a digit: l is what is left of the run, u what is left after the byte b
module _ {l u : List ℕ} {b : ℕ} (e : l ≡ b ∷ u) where
  pub digits-skip : b ≡ 95 → length (digits_of l) ≡ length (digits_of u)
  unfolding digits_of is_und
  digits-skip h = rw (e, eq-eqb b 95 h)

  pub digits_more : (b ≡ 95 → ⊥) → length (digits_of l) ≡ length (digits_of u) + 1
  unfolding digits_of is_und
  digits_more h = rw (e, ne_eqb b 95 h, add-one)

  pub head-stop : (n : ℕ) → n ≡ 0 → length (head_of l n) ≡ 0
  unfolding head_of
  head-stop n h = rw (e, eq-eqb n 0 h)

  pub head-skip : (n : ℕ) → (n ≡ 0 → ⊥) → b ≡ 95 → length (head_of l n) ≡ length (head_of u n) + 1
  unfolding head_of is_und
  head-skip n z h = rw (e, ne_eqb n 0 z, eq-eqb b 95 h, add-one)

  pub head_more : (n : ℕ) → (n ≡ 0 → ⊥) → (b ≡ 95 → ⊥) → length (head_of l n) ≡ length (head_of u (n - 1)) + 1
  unfolding head_of is_und
  head_more n z h = rw (e, ne_eqb n 0 z, ne_eqb b 95 h, add-one)

pub digits-end : (t : List ℕ) (i : ℕ) → length t ≤ i → length (digits_of (drop i t)) ≡ 0
unfolding digits_of
digits-end t i h = rw (drop_of_length-le t {i = i} h)

pub head-end : (t : List ℕ) (n i : ℕ) → length t ≤ i → length (head_of (drop i t) n) ≡ 0
unfolding head_of
head-end t n i h = rw (drop_of_length-le t {i = i} h)

pub turn : (t : List ℕ) (i : ℕ) → i < length t → drop i t ≡ get_or t i 0 ∷ drop (i + 1) t
turn t i h = rw (add-one, drop-cons t i 0)

-- ---- the first and the last byte
pub front-byte : (t : List ℕ) → slice_get t 0 ≡ first_of t
unfolding first_of
front-byte [] = search rules
front-byte (b ∷ t) = search rules

pub back-byte : (t : List ℕ) → slice_get t (length t - 1) ≡ last_of t
unfolding first_of last_of
back-byte [] = search rules
back-byte (b ∷ t) =
    let l = b ∷ t in
    let k : length l - 1 - 0 ≡ length l - 1 = omega arith in
    slice_get-get_or l (length l - 1) 0 (omega arith) ∙ ap (λ (n : ℕ). Some (get_or l n 0)) (sym k)
    ∙ ap Some (sym (get_or-reverse l 0 0 (omega arith))) ∙ sym (slice_get-get_or (reverse l) 0 0 (omega (arith, length-reverse l)))
    ∙ front-byte (reverse l)
