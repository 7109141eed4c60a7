-- Laws of runs: their digits, what a rule takes and leaves, and the parts at a byte or a digit count. Assumes nothing.
use Rattle.std.specs.Prelude.{◌≡◌, refl, Bool, true, false, cond, ℕ, zero, suc, ◌+◌, ◌-◌, ◌≤◌, length, take, drop, replicate, eqb}
use Rattle.std.proofs.Common.{sym, ap, ◌∙◌, arith, length-append, length-drop, drop_of_length-le, take_all}
use mathlib.Core.List.{List, [], ◌∷◌, ◌++◌, reverse, reverse-append, reverse-reverse, reverse-cons, append-nil}
use Rattle.std.proofs.lemmas.List.{length-reverse}
use Rattle.std.proofs.Math.Seq.{drop-append_seam, take-append_seam}
use Rattle.digits.specs.Meaning.{is_und, digits_of, take_while, drop_while, take_back, drop_back, head_of, tail_of}

-- ---- the digits of two runs, and of a run read from behind
pub digits_append : (s t : List ℕ) → digits_of (s ++ t) ≡ digits_of s ++ digits_of t
unfolding digits_of
digits_append [] t = refl
digits_append (b ∷ s) t = go (is_und b) (digits_append s t)
  where
    go : (u : Bool) → digits_of (s ++ t) ≡ digits_of s ++ digits_of t
        → cond u (digits_of (s ++ t)) (b ∷ digits_of (s ++ t)) ≡ cond u (digits_of s) (b ∷ digits_of s) ++ digits_of t
    go true e = e
    go false e = ap (λ (l : List ℕ). b ∷ l) e

pub digits-reverse : (t : List ℕ) → digits_of (reverse t) ≡ reverse (digits_of t)
unfolding digits_of
digits-reverse [] = refl
digits-reverse (b ∷ t) = ap digits_of (reverse-cons b t) ∙ digits_append (reverse t) (b ∷ []) ∙ go (is_und b) (digits-reverse t)
  where
    go : (u : Bool) → digits_of (reverse t) ≡ reverse (digits_of t) → digits_of (reverse t) ++ cond u [] (b ∷ []) ≡ reverse (cond u (digits_of t) (b ∷ digits_of t))
    go true e = append-nil (digits_of (reverse t)) ∙ e
    go false e = ap (λ (l : List ℕ). l ++ (b ∷ [])) e ∙ sym (reverse-cons b (digits_of t))

-- ---- what a rule takes and what it leaves make up the run, from either end
pub while-whole : (p : ℕ → Bool) (t : List ℕ) → take_while p t ++ drop_while p t ≡ t
unfolding take_while drop_while
while-whole p [] = refl
while-whole p (b ∷ t) = go (p b) (while-whole p t)
  where
    go : (u : Bool) → take_while p t ++ drop_while p t ≡ t → cond u (b ∷ take_while p t) [] ++ cond u (drop_while p t) (b ∷ t) ≡ b ∷ t
    go true e = ap (λ (l : List ℕ). b ∷ l) e
    go false e = refl

pub back_whole : (p : ℕ → Bool) (t : List ℕ) → drop_back p t ++ take_back p t ≡ t
unfolding drop_back take_back
back_whole p t =
    sym (reverse-append (take_while p (reverse t)) (drop_while p (reverse t))) ∙ ap reverse (while-whole p (reverse t)) ∙ reverse-reverse t

pub while-length : (p : ℕ → Bool) (t : List ℕ) → length (take_while p t) + length (drop_while p t) ≡ length t
while-length p t = sym (length-append (take_while p t) (drop_while p t)) ∙ ap length (while-whole p t)

pub back-length : (p : ℕ → Bool) (t : List ℕ) → length (drop_back p t) + length (take_while p (reverse t)) ≡ length t
unfolding drop_back
back-length p t =
    omega (arith, length-reverse (drop_while p (reverse t)), while-length p (reverse t), length-reverse t)

-- so what is left is a part of the run
pub drop-while : (p : ℕ → Bool) (t : List ℕ) → drop (length (take_while p t)) t ≡ drop_while p t
drop-while p t =
    ap (λ (l : List ℕ). drop (length (take_while p t)) l) (sym (while-whole p t)) ∙ drop-append_seam (take_while p t) (drop_while p t)

pub take-while : (p : ℕ → Bool) (t : List ℕ) → take (length (take_while p t)) t ≡ take_while p t
take-while p t =
    ap (take (length (take_while p t))) (sym (while-whole p t)) ∙ take-append_seam (take_while p t) (drop_while p t)

pub take-back : (p : ℕ → Bool) (t : List ℕ) (n : ℕ) → n + length (take_while p (reverse t)) ≡ length t → take n t ≡ drop_back p t
take-back p t n h =
    let k : n ≡ length (drop_back p t) = omega (arith, back-length p t) in
    ap (λ (l : List ℕ). take n l) (sym (back_whole p t)) ∙ ap (λ (m : ℕ). take m (drop_back p t ++ take_back p t)) k
    ∙ take-append_seam (drop_back p t) (take_back p t)

-- ---- what a rule takes that holds of one byte only
pub all_are : (p : ℕ → Bool) (x : ℕ) → ((b : ℕ) → p b ≡ true → b ≡ x) → (t : List ℕ)
    → take_while p t ≡ replicate (length (take_while p t)) x
unfolding take_while
all_are p x h [] = refl
all_are p x h (b ∷ t) = go (p b) refl (all_are p x h t)
  where
    go : (u : Bool) → p b ≡ u → take_while p t ≡ replicate (length (take_while p t)) x
        → cond u (b ∷ take_while p t) [] ≡ replicate (length (cond u (b ∷ take_while p t) [])) x
    go true q e = rw (h b q) (ap (λ (l : List ℕ). x ∷ l) e)
    go false q e = refl

-- ---- what stands between two parts of a run
pub middle : (f v w : List ℕ) → take (length v) (drop (length f) (f ++ (v ++ w))) ≡ v
middle f v w = ap (take (length v)) (drop-append_seam f (v ++ w)) ∙ take-append_seam v w

-- ---- a part of a run, up to its end
pub rest-part : (t : List ℕ) (n : ℕ) → take (length t - n) (drop n t) ≡ drop n t
rest-part t n = take_all (length t - n) (drop n t) (simp length-drop (omega arith))

-- two runs of no bytes
pub empty-both : (s t : List ℕ) → length s ≤ 0 → length t ≤ 0 → s ≡ t
empty-both s t h k = drop_of_length-le s {i = 0} h ∙ sym (drop_of_length-le t {i = 0} k)

-- ---- the two parts at a digit count make up the run
pub parts_whole : (t : List ℕ) (n : ℕ) → head_of t n ++ tail_of t n ≡ t
unfolding head_of tail_of
parts_whole [] n = refl
parts_whole (b ∷ t) n = go (eqb n 0) (parts_whole t (cond (is_und b) n (n - 1)))
  where
    go : (z : Bool) → head_of t (cond (is_und b) n (n - 1)) ++ tail_of t (cond (is_und b) n (n - 1)) ≡ t
        → cond z [] (b ∷ head_of t (cond (is_und b) n (n - 1))) ++ cond z (b ∷ t) (tail_of t (cond (is_und b) n (n - 1))) ≡ b ∷ t
    go true e = refl
    go false e = ap (λ (l : List ℕ). b ∷ l) e

pub take_head : (t : List ℕ) (n : ℕ) → take (length (head_of t n)) t ≡ head_of t n
take_head t n = ap (λ (l : List ℕ). take (length (head_of t n)) l) (sym (parts_whole t n)) ∙ take-append_seam (head_of t n) (tail_of t n)

pub drop_head : (t : List ℕ) (n : ℕ) → drop (length (head_of t n)) t ≡ tail_of t n
drop_head t n = ap (λ (l : List ℕ). drop (length (head_of t n)) l) (sym (parts_whole t n)) ∙ drop-append_seam (head_of t n) (tail_of t n)

pub head-length : (t : List ℕ) (n : ℕ) → length (head_of t n) ≤ length t
head-length t n = omega (arith, length-append (head_of t n) (tail_of t n), ap length (parts_whole t n))

-- ---- a list of one byte, read from behind
replicate-snoc : (n x : ℕ) → replicate n x ++ (x ∷ []) ≡ x ∷ replicate n x
replicate-snoc zero x = refl
replicate-snoc (suc n) x = ap (λ (l : List ℕ). x ∷ l) (replicate-snoc n x)

pub replicate-reverse : (n x : ℕ) → reverse (replicate n x) ≡ replicate n x
replicate-reverse zero x = refl
replicate-reverse (suc n) x = reverse-cons x (replicate n x) ∙ ap (λ (l : List ℕ). l ++ (x ∷ [])) (replicate-reverse n x) ∙ replicate-snoc n x
