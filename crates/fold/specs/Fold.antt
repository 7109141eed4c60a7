-- A number of any size folded into one word and a bit, and that this is enough: sums, products and rounding of what is folded give what
-- the number gives (and a format makes the same of it: `settle-folded` of `text`). Assumes nothing.
use Rattle.std.specs.Prelude.{◌≡◌, Bool, true, false, cond, ◌||◌, ℕ, ◌+◌, ◌-◌, ◌*◌, ◌/◌, ◌%◌, ◌^◌, ◌≤◌, ◌<◌, leb, ltb}
use Rattle.std.proofs.Common.{sym, ◌∙◌, div-add-mod', mul-pos, mul-le-mul, mod-eq_of_lt, pow_pos, le-leb, lt-ltb, le-ltb}
use Rattle.std.proofs.Math.Path.{ap}
use Rattle.std.proofs.Math.Nat.{mul-add-mod_self_right}
use Rattle.std.proofs.Math.Decide.{dec_le}
use native.Mathlib.Omega.{arith}
use Rattle.std.proofs.lemmas.Bool.{lt-leb}
use Rattle.laws.specs.Powers.{power-sub}
use Rattle.fold.specs.declared.Folded.{Folded}
use Rattle.std.specs.declared.cmp.Ordering.{Ordering}
use Rattle.std.specs.declared.cmp.Ordering.TheVariants.{Less, Equal, Greater}
use Rattle.fold.specs.Round.{round_by}

-- the number modulo 2^64, and whether it is past that
unfoldable pub fold_of : ℕ → Folded
fold_of m = record { low = m % 2 ^ 64; over = leb (2 ^ 64) m }

-- the least number that is folded so
abbrev pub bit : Bool → ℕ
bit b = cond b 1 0

abbrev pub folded_value : Folded → ℕ
folded_value x = bit x.over * 2 ^ 64 + x.low

-- ---- what the code finds is what is folded: the number is h whole 2^64 and l
folded : {x : Folded} (m : ℕ) → x.low ≡ m % 2 ^ 64 → x.over ≡ leb (2 ^ 64) m → x ≡ fold_of m
unfolding fold_of
folded m e f = λ i. record { low = e i; over = f i }

pub fold_words : {x : Folded} (m h : ℕ) → m ≡ h * 2 ^ 64 + x.low → x.low < 2 ^ 64 → x.over ≡ ltb 0 h → x ≡ fold_of m
fold_words {x} m h e l f =
    folded m (sym (ap (λ (n : ℕ). n % 2 ^ 64) e ∙ mul-add-mod_self_right h (2 ^ 64) x.low ∙ mod-eq_of_lt l)) (f ∙ go (dec_le 1 h))
  where
    go : Dec (1 ≤ h) → ltb 0 h ≡ leb (2 ^ 64) m
    go (yes k) = lt-ltb 0 h k ∙ sym (le-leb (2 ^ 64) m (omega arith))
    go (no k) = le-ltb 0 h (omega arith) ∙ sym (lt-leb (2 ^ 64) m (omega arith))

-- a product and a sum, h and l the words of x.low * m + d
pub times-done : (x : Folded) (m d : ℕ) {r : Folded} (h : ℕ) → 0 < m → h * 2 ^ 64 + r.low ≡ x.low * m + d → r.low < 2 ^ 64 → r.over ≡ (x.over || ltb 0 h)
    → r ≡ fold_of (folded_value x * m + d)
times-done x m d {r} h k e l f = fold_words (folded_value x * m + d) (bit x.over * m + h) (omega arith) l (f ∙ go x.over)
  where
    go : (b : Bool) → (b || ltb 0 h) ≡ ltb 0 (bit b * m + h)
    go true = sym (lt-ltb 0 (1 * m + h) (omega arith))
    go false = ap (ltb 0) (omega arith)

-- what rounding adds, case by case
module _ (x : Folded) {how : Ordering} {carry : ℕ} {r : Folded} where
  pub round-less : how ≡ Less → carry ≡ 0 → r ≡ fold_of (folded_value x + carry) → r ≡ fold_of (round_by how (folded_value x))
  unfolding round_by
  round-less e f g = rw e (g ∙ ap fold_of (omega arith))

  pub round-equal : how ≡ Equal → carry ≡ x.low % 2 → r ≡ fold_of (folded_value x + carry) → r ≡ fold_of (round_by how (folded_value x))
  unfolding round_by
  round-equal e f g =
      let odd : carry ≡ folded_value x % 2 = omega arith in
      rw e (g ∙ ap (λ (b : ℕ). fold_of (folded_value x + b)) odd)

  pub round-greater : how ≡ Greater → carry ≡ 1 → r ≡ fold_of (folded_value x + carry) → r ≡ fold_of (round_by how (folded_value x))
  unfolding round_by
  round-greater e f g = rw e (g ∙ ap (λ (b : ℕ). fold_of (folded_value x + b)) f)

-- past 64 places only whether it is 0 is left
far-words : (v k : ℕ) → 64 ≤ k → v * 2 ^ k ≡ v * 2 ^ (k - 64) * 2 ^ 64 + 0
far-words v k far = omega (arith, ap (λ (n : ℕ). v * n) (power-sub 64 k far))

pub scale-done : (x : Folded) (k : ℕ) {r : Folded} → 64 ≤ k → r.low ≡ 0 → r.over ≡ (x.over || ltb 0 x.low) → r ≡ fold_of (folded_value x * 2 ^ k)
scale-done x k far e f =
    fold_words (folded_value x * 2 ^ k) (folded_value x * 2 ^ (k - 64)) (rw e (far-words (folded_value x) k far)) (omega arith)
    (f ∙ some x.over ∙ sym (go (dec_le 1 (folded_value x))))
  where
    some : (b : Bool) → (b || ltb 0 x.low) ≡ ltb 0 (bit b * 2 ^ 64 + x.low)
    some true = sym (lt-ltb 0 (1 * 2 ^ 64 + x.low) (omega arith))
    some false = ap (ltb 0) (omega arith)

    go : Dec (1 ≤ folded_value x) → ltb 0 (folded_value x * 2 ^ (k - 64)) ≡ ltb 0 (folded_value x)
    go (yes h) = lt-ltb 0 (folded_value x * 2 ^ (k - 64)) (mul-pos h (pow_pos (k - 64))) ∙ sym (lt-ltb 0 (folded_value x) h)
    go (no h) =
        let none : folded_value x ≡ 0 = omega arith in
        le-ltb 0 (folded_value x * 2 ^ (k - 64)) (omega (arith, ap (λ (n : ℕ). n * 2 ^ (k - 64)) none)) ∙ sym (le-ltb 0 (folded_value x) (omega arith))

-- ---- what is folded stands for the number: the same number, or both are past 2^64 and differ by a whole number of it
pub fold_same : (m n t : ℕ) → 2 ^ 64 ≤ n → m ≡ t * 2 ^ 64 + n → fold_of m ≡ fold_of n
unfolding fold_of
fold_same m n t h e =
    folded n (ap (λ (k : ℕ). k % 2 ^ 64) e ∙ mul-add-mod_self_right t (2 ^ 64) n) (le-leb (2 ^ 64) m (omega arith) ∙ sym (le-leb (2 ^ 64) n h))

pub value-small : (m : ℕ) → m < 2 ^ 64 → folded_value (fold_of m) ≡ m
unfolding fold_of
value-small m h = rw (lt-leb (2 ^ 64) m h) (omega (arith, mod-eq_of_lt h))

pub value-large : (m : ℕ) → 2 ^ 64 ≤ m → m ≡ (m / 2 ^ 64 - 1) * 2 ^ 64 + folded_value (fold_of m)
unfolding fold_of
value-large m h = rw (le-leb (2 ^ 64) m h) (omega (arith, div-add-mod' m (2 ^ 64)))

pub value-past : (m : ℕ) → 2 ^ 64 ≤ m → 2 ^ 64 ≤ folded_value (fold_of m)
unfolding fold_of
value-past m h = rw (le-leb (2 ^ 64) m h) (omega arith)

-- so a step on what is folded is the step on the number
pub fold_step : (m k d : ℕ) → 0 < k → fold_of (folded_value (fold_of m) * k + d) ≡ fold_of (m * k + d)
fold_step m k d h = go (dec_le (2 ^ 64) m)
  where
    go : Dec (2 ^ 64 ≤ m) → fold_of (folded_value (fold_of m) * k + d) ≡ fold_of (m * k + d)
    go (no l) = ap (λ (n : ℕ). fold_of (n * k + d)) (value-small m (omega arith))
    go (yes l) =
        let v = folded_value (fold_of m) in
        let t = m / 2 ^ 64 - 1 in
        let far : 2 ^ 64 * 1 ≤ v * k = mul-le-mul (value-past m l) h in
        sym (fold_same (m * k + d) (v * k + d) (t * k) (omega arith) (omega (arith, ap (λ (n : ℕ). n * k) (value-large m l))))

pub fold-again : (m : ℕ) → fold_of (folded_value (fold_of m)) ≡ fold_of m
fold-again m = ap fold_of (omega arith) ∙ fold_step m 1 0 (omega arith) ∙ ap fold_of (omega arith)

pub folded_again : {x : Folded} (m : ℕ) → x ≡ fold_of m → x ≡ fold_of (folded_value x)
folded_again m e = e ∙ sym (fold-again m) ∙ ap (λ (y : Folded). fold_of (folded_value y)) (sym e)

pub fold-add : (m d : ℕ) → fold_of (folded_value (fold_of m) + d) ≡ fold_of (m + d)
fold-add m d = ap fold_of (omega arith) ∙ fold_step m 1 d (omega arith) ∙ ap fold_of (omega arith)

pub fold-times : (m k : ℕ) → 0 < k → fold_of (folded_value (fold_of m) * k) ≡ fold_of (m * k)
fold-times m k h = ap fold_of (omega arith) ∙ fold_step m k 0 h ∙ ap fold_of (omega arith)

-- the last bit is the number's
pub fold-odd : (m : ℕ) → folded_value (fold_of m) % 2 ≡ m % 2
fold-odd m = go (dec_le (2 ^ 64) m)
  where
    go : Dec (2 ^ 64 ≤ m) → folded_value (fold_of m) % 2 ≡ m % 2
    go (no l) = ap (λ (n : ℕ). n % 2) (value-small m (omega arith))
    go (yes l) = omega (arith, value-large m l)

pub fold-round : (m : ℕ) (how : Ordering) → fold_of (round_by how (folded_value (fold_of m))) ≡ fold_of (round_by how m)
unfolding round_by
fold-round m Less = fold-again m
fold-round m Equal = ap (λ (b : ℕ). fold_of (folded_value (fold_of m) + b)) (fold-odd m) ∙ fold-add m (m % 2)
fold-round m Greater = fold-add m 1
