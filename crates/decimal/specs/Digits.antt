-- The digits of the meaning, step by step: the whole part from its last digit, the fraction from its first, and how many there are.
-- The idea for the fraction: ten is twice five, so each digit takes one power of two from the denominator. Assumes nothing.
use Rattle.std.specs.Prelude.{◌≡◌, refl, Bool, true, false, cond, List, [], ◌∷◌, ◌++◌, map, ℕ, zero, suc, ◌+◌, ◌-◌, ◌*◌, ◌/◌, ◌%◌, ◌^◌, ◌≤◌, ◌<◌, ltb, eqb, length}
use Rattle.std.proofs.Common.{sym, ap, ◌∙◌, pow-suc, div-add-mod', mod-lt, mul_comm, mul-pos, arith, lit<, pow_pos, length-append, lt-ltb, le-ltb, ltb-true, ltb-false, ne_eqb, eqb-true}
use Rattle.std.proofs.lemmas.List.{map-append, length-map}
use Rattle.std.proofs.Math.Nat.{pow-zero, mul-sub, mul-div-mul_right}
use Rattle.std.proofs.lemmas.Bool.{eqb-false}
use Rattle.decimal.specs.Meaning.{byte_of, whole_by, whole_digits, whole_text, fraction_by}
use Rattle.decimal.specs.Layout.{Ends}

-- ---- the whole part: any number of divisions that is enough gives the same
enough : (j k n : ℕ) → n ≤ j → n ≤ k → whole_by j n ≡ whole_by k n
unfolding whole_by
enough zero zero n h l = refl
enough zero (suc k) n h l = rw (lt-ltb n 10 (omega arith))
enough (suc j) zero n h l = rw (lt-ltb n 10 (omega arith))
enough (suc j) (suc k) n h l = go (ltb n 10) refl (λ m. enough j k (n / 10) (omega arith) (omega arith))
  where
    go : (t : Bool) → ltb n 10 ≡ t → (10 ≤ n → whole_by j (n / 10) ≡ whole_by k (n / 10))
        → cond t (n ∷ []) (whole_by j (n / 10) ++ (n % 10 ∷ [])) ≡ cond t (n ∷ []) (whole_by k (n / 10) ++ (n % 10 ∷ []))
    go true e more = refl
    go false e more = ap (λ (ds : List ℕ). ds ++ (n % 10 ∷ [])) (more (ltb-false n 10 e))

pub whole-last : (n : ℕ) → n < 10 → whole_digits n ≡ n ∷ []
unfolding whole_digits whole_by
whole-last zero h = refl
whole-last (suc n) h = rw (lt-ltb (suc n) 10 h)

pub whole-more : (n : ℕ) → 10 ≤ n → whole_digits n ≡ whole_digits (n / 10) ++ (n % 10 ∷ [])
unfolding whole_digits whole_by
whole-more zero h = absurd (omega arith)
whole-more (suc n) h = rw (le-ltb (suc n) 10 h) (ap (λ (ds : List ℕ). ds ++ (suc n % 10 ∷ [])) (enough n (suc n / 10) (suc n / 10) (omega arith) (omega arith)))

-- what holds of a digit, and of one more after what it holds of, holds of every number
pub whole-ind : (P : ℕ → Type 0) → ((n : ℕ) → n < 10 → P n) → ((n : ℕ) → 10 ≤ n → P (n / 10) → P n) → (n : ℕ) → P n
whole-ind P one more n = go n n (omega arith)
  where
    pick : (k n : ℕ) (t : Bool) → ltb n 10 ≡ t → (10 ≤ n → P (n / 10)) → P n
    pick k n true e p = one n (ltb-true n 10 e)
    pick k n false e p = let m : 10 ≤ n = ltb-false n 10 e in more n m (p m)

    go : (k n : ℕ) → n ≤ k → P n
    go zero n h = one n (omega arith)
    go (suc k) n h = pick k n (ltb n 10) refl (λ m. go k (n / 10) (omega arith))

-- there is a digit, and a number below 10^(k + 1) has at most k + 1
pub whole-some : (n : ℕ) → 0 < length (whole_digits n)
whole-some =
    whole-ind (λ n. 0 < length (whole_digits n)) (λ n h. rw (whole-last n h) (lit< tt))
    (λ n h p. rw (whole-more n h) (omega (arith, length-append (whole_digits (n / 10)) (n % 10 ∷ []))))

pub whole_length : (k n : ℕ) → n < 10 ^ suc k → length (whole_digits n) ≤ suc k
whole_length zero n h = rw (whole-last n (omega (arith, pow-suc 10 0, pow-zero 10))) (omega arith)
whole_length (suc k) n h = pick (ltb n 10) refl (whole_length k (n / 10) (omega (arith, pow-suc 10 (suc k))))
  where
    pick : (t : Bool) → ltb n 10 ≡ t → length (whole_digits (n / 10)) ≤ suc k → length (whole_digits n) ≤ suc (suc k)
    pick true e p = rw (whole-last n (ltb-true n 10 e)) (omega arith)
    pick false e p = rw (whole-more n (ltb-false n 10 e)) (omega (arith, length-append (whole_digits (n / 10)) (n % 10 ∷ [])))

-- and k divisions are enough for it
pub whole-by : (k n : ℕ) → n < 10 ^ suc k → whole_digits n ≡ whole_by k n
unfolding whole_by
whole-by zero n h = whole-last n (omega (arith, pow-suc 10 0, pow-zero 10))
whole-by (suc k) n h = pick (ltb n 10) refl (whole-by k (n / 10) (omega (arith, pow-suc 10 (suc k))))
  where
    pick : (t : Bool) → ltb n 10 ≡ t → whole_digits (n / 10) ≡ whole_by k (n / 10) → whole_digits n ≡ cond t (n ∷ []) (whole_by k (n / 10) ++ (n % 10 ∷ []))
    pick true e p = whole-last n (ltb-true n 10 e)
    pick false e p = whole-more n (ltb-false n 10 e) ∙ ap (λ (ds : List ℕ). ds ++ (n % 10 ∷ [])) p

-- the same as bytes
pub whole-text-last : (n : ℕ) → n < 10 → whole_text n ≡ byte_of n ∷ []
unfolding whole_text
whole-text-last n h = rw (whole-last n h)

pub whole-text-more : (n : ℕ) → 10 ≤ n → whole_text n ≡ whole_text (n / 10) ++ (byte_of (n % 10) ∷ [])
unfolding whole_text
whole-text-more n h = ap (map byte_of) (whole-more n h) ∙ map-append byte_of (whole_digits (n / 10)) (n % 10 ∷ [])

pub whole-text-length : (n : ℕ) → length (whole_text n) ≡ length (whole_digits n)
unfolding whole_text
whole-text-length n = length-map (whole_digits n) byte_of

pub whole-text-some : (n : ℕ) → 0 < length (whole_text n)
whole-text-some n = omega (arith, whole-text-length n, whole-some n)

-- a word has at most 20 digits
pub whole_word : (n : ℕ) → n < 2 ^ 64 → length (whole_text n) ≤ 20
whole_word n h = omega (arith, whole-text-length n, whole_length 19 n (omega arith))

-- ---- the fraction
pub fraction-none : (m k : ℕ) → fraction_by m k 0 ≡ []
unfolding fraction_by
fraction-none m zero = refl
fraction-none m (suc k) = refl

pub fraction-more : (m k n : ℕ) → (n ≡ 0 → ⊥) → fraction_by m (suc k) n ≡ n * 10 / m ∷ fraction_by m k (n * 10 % m)
unfolding fraction_by
fraction-more m k n h = rw (ne_eqb n 0 h)

pub ends-start : (f n : ℕ) → Ends f (2 ^ f) n
ends-start f n = record { times = n; whole = refl }

-- a digit less is enough for what a digit leaves
pub ends_next : (k m n : ℕ) → Ends (suc k) m n → Ends k m (n * 10 % m)
ends_next k m n e =
    let p = 2 ^ k in
    let d = n * 10 / m in
    let r = n * 10 % m in
    let a = e.times in
    let cut : d * m + r ≡ n * 10 = div-add-mod' (n * 10) m in
    let cut' : d * m * p + r * p ≡ n * 10 * p = omega (arith, ap (λ (v : ℕ). v * p) cut) in
    let twice : n * (p * 2) ≡ a * m = ap (λ (v : ℕ). n * v) (sym (pow-suc 2 k)) ∙ e.whole in
    let five : n * 10 * p ≡ 5 * a * m = omega (arith, twice) in
    let rest : r * p ≡ 5 * a * m - d * p * m = omega arith in
    record { times = 5 * a - d * p; whole = rest ∙ sym (mul_comm (5 * a - d * p) m ∙ mul-sub m (5 * a) (d * p) ∙ omega arith) }

-- where no digit is left to write, nothing is left
pub ends-none : (m n : ℕ) → n < m → Ends 0 m n → n ≡ 0
ends-none m n h e = go e.times e.whole
  where
    go : (a : ℕ) → n * 2 ^ 0 ≡ a * m → n ≡ 0
    go zero e = omega arith
    go (suc a) e = absurd (omega (arith, e))

-- What is left of n / m after k digits. With F fraction bits nothing is left after F digits: `fraction_digits` has them all.
unfoldable pub left_after : ℕ → ℕ → ℕ → ℕ
left_after m zero n = n
left_after m (suc k) n = left_after m k (n * 10 % m)

left-none : (m k n : ℕ) → 0 < m → n < m → Ends k m n → left_after m k n ≡ 0
unfolding left_after
left-none m zero n p h e = ends-none m n h e
left-none m (suc k) n p h e = left-none m k (n * 10 % m) p (mod-lt (n * 10) p) (ends_next k m n e)

pub fraction-ends : (f n : ℕ) → n < 2 ^ f → left_after (2 ^ f) f n ≡ 0
fraction-ends f n h = left-none (2 ^ f) f n (pow_pos f) h (ends-start f n)

-- the fraction decides, not how it is written
pub ends-scale : (k m n c : ℕ) → Ends k m n → Ends k (m * c) (n * c)
ends-scale k m n c e =
    let w = ap (λ (v : ℕ). v * c) e.whole in
    record { times = e.times; whole = omega (arith, w) }

pub mod-scale : (n m c : ℕ) → 0 < c → n * c % (m * c) ≡ n % m * c
mod-scale n m c h =
    let q = n / m in
    let whole : n * c / (m * c) * (m * c) + n * c % (m * c) ≡ n * c = div-add-mod' (n * c) (m * c) in
    let same : n * c / (m * c) * (m * c) ≡ q * (m * c) = ap (λ (v : ℕ). v * (m * c)) (mul-div-mul_right n m h) in
    let parts : (q * m + n % m) * c ≡ n * c = ap (λ (v : ℕ). v * c) (div-add-mod' n m) in
    omega (arith, whole, same, parts)

pub fraction-scale : (m k n c : ℕ) → 0 < c → fraction_by (m * c) k (n * c) ≡ fraction_by m k n
unfolding fraction_by
fraction-scale m zero n c h = refl
fraction-scale m (suc k) n c h = go (eqb n 0) refl (fraction-scale m k (n * 10 % m) c h)
  where
    go : (t : Bool) → eqb n 0 ≡ t → fraction_by (m * c) k (n * 10 % m * c) ≡ fraction_by m k (n * 10 % m)
        → cond (eqb (n * c) 0) [] (n * c * 10 / (m * c) ∷ fraction_by (m * c) k (n * c * 10 % (m * c))) ≡ cond t [] (n * 10 / m ∷ fraction_by m k (n * 10 % m))
    go true e p = let z : n * c ≡ 0 = ap (λ (v : ℕ). v * c) (eqb-true n 0 e) ∙ omega arith in rw z
    go false e p =
        let some : 0 < n * c = mul-pos (omega (arith, eqb-false n 0 e)) h in
        let ten : n * c * 10 ≡ n * 10 * c = omega arith in
        rw (ne_eqb (n * c) 0 (omega arith), ten, mul-div-mul_right (n * 10) m h, mod-scale (n * 10) m c h, p)
