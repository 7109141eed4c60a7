-- Whether a power of ten is reached, on one scale for both sides of one: the test of `reaches` with both sides multiplied.
-- The comparison of the code is that test with the twos on the other side. Assumes nothing.
use mathlib.Core.Path.{◌≡◌, sym, ap, ◌∙◌}
use Prim.Native.Nat.{ℕ, suc, ◌+◌, ◌-◌, ◌*◌, ◌/◌, ◌^◌, ◌≤◌, ◌<◌}
use native.Mathlib.Nat.{pow-zero, pow-suc, mul-one, one-le-pow, mul-le-mul_right, le_of_mul-le-mul_right, le-div_iff_mul-le}
use native.Mathlib.Decide.{dec_le}
use native.Mathlib.Omega.{arith}
use lib.Dec.{leb, lit<}
use lib.Pow.{pow-add, pow_pos}
use lib.IntN.{pos, negsuc, ◌-ℤ◌}
use borrow.Author.Tests.{le-leb, lt-leb}
use Rattle.laws.specs.Diff.{sub_out, orders}
use Rattle.laws.specs.Powers.{ten-power}
use Rattle.log10.specs.Meaning.{reaches}

-- two tests of the same
leb-same : (a b c d : ℕ) → (a ≤ b → c ≤ d) → (c ≤ d → a ≤ b) → leb a b ≡ leb c d
leb-same a b c d f g = go (dec_le a b)
  where
    go : Dec (a ≤ b) → leb a b ≡ leb c d
    go (yes l) = le-leb a b l ∙ sym (le-leb c d (f l))
    go (no l) = lt-leb a b (omega arith) ∙ sym (lt-leb c d (other (dec_le c d)))
      where
        other : Dec (c ≤ d) → d < c
        other (yes m) = absurd (l (g m))
        other (no m) = omega arith

leb-times : (a b c : ℕ) → 0 < c → leb a b ≡ leb (a * c) (b * c)
leb-times a b c h = leb-same a b (a * c) (b * c) (mul-le-mul_right c) (λ l. le_of_mul-le-mul_right l h)

leb-over : (a b c : ℕ) → 0 < c → leb a (b / c) ≡ leb (a * c) b
leb-over a b c h = leb-same a (b / c) (a * c) b (le-div_iff_mul-le h).0 (le-div_iff_mul-le h).1

-- 10^(i - s) <= raw / 2^F
pub on-scale : (raw f i s : ℕ) → reaches raw f (pos i -ℤ pos s) ≡ leb (10 ^ i * 2 ^ f) (raw * 10 ^ s)
unfolding reaches
on-scale raw f i s = go (dec_le s i)
  where
    go : Dec (s ≤ i) → reaches raw f (pos i -ℤ pos s) ≡ leb (10 ^ i * 2 ^ f) (raw * 10 ^ s)
    go (yes l) =
        let n = i - s in
        let k : pos i -ℤ pos s ≡ pos n = omega (orders, sub_out (pos i) (pos s)) in
        let e : n + s ≡ i = omega arith in
        let p : 10 ^ i ≡ 10 ^ n * 10 ^ s = ap (λ (m : ℕ). 10 ^ m) (sym e) ∙ pow-add 10 n s in
        let q : 10 ^ n * 2 ^ f * 10 ^ s ≡ 10 ^ i * 2 ^ f = omega (arith, ap (λ (m : ℕ). m * 2 ^ f) p) in
        rw (k, ← q) (leb-times (10 ^ n * 2 ^ f) raw (10 ^ s) (one-le-pow s 10 (lit< tt)))
    go (no l) =
        let n = s - suc i in
        let k : pos i -ℤ pos s ≡ negsuc n = omega (orders, sub_out (pos i) (pos s)) in
        let e : suc n + i ≡ s = omega arith in
        let p : 10 ^ s ≡ 10 ^ suc n * 10 ^ i = ap (λ (m : ℕ). 10 ^ m) (sym e) ∙ pow-add 10 (suc n) i in
        let q : raw * 10 ^ suc n * 10 ^ i ≡ raw * 10 ^ s = omega (arith, ap (λ (m : ℕ). raw * m) p) in
        let u : 2 ^ f * 10 ^ i ≡ 10 ^ i * 2 ^ f = omega arith in
        rw (k, ← q, ← u) (leb-times (2 ^ f) (raw * 10 ^ suc n) (10 ^ i) (one-le-pow i 10 (lit< tt)))

-- The code's comparison, with t and a the fives of 10^(g - 19) below and above: the twos of it stand with those of 2^F.
pub by-fives : (raw f g t a : ℕ) → 20 ≤ f + g → t ≡ 5 ^ (19 - g) → a ≡ 5 ^ (g - 19)
    → leb a (raw * t / 2 / 2 ^ (f + g - 20)) ≡ reaches raw f (pos g -ℤ pos 19)
unfolding reaches
by-fives raw f g t a h et ea = whole ∙ go (dec_le 19 g)
  where
    s : ℕ
    s = f + g - 20

    whole : leb a (raw * t / 2 / 2 ^ s) ≡ leb (a * 2 ^ s * 2) (raw * t)
    whole = leb-over a (raw * t / 2) (2 ^ s) (pow_pos s) ∙ leb-over (a * 2 ^ s) (raw * t) 2 (lit< tt)

    two : 2 ^ s * 2 ≡ 2 ^ suc s
    two = sym (pow-suc 2 s)

    go : Dec (19 ≤ g) → leb (a * 2 ^ s * 2) (raw * t) ≡ reaches raw f (pos g -ℤ pos 19)
    go (yes l) =
        let n = g - 19 in
        let k : pos g -ℤ pos 19 ≡ pos n = omega (orders, sub_out (pos g) (pos 19)) in
        let e : suc s ≡ n + f = omega arith in
        let p : 2 ^ suc s ≡ 2 ^ n * 2 ^ f = ap (λ (m : ℕ). 2 ^ m) e ∙ pow-add 2 n f in
        let z : 19 - g ≡ 0 = omega arith in
        let one : t ≡ 1 = et ∙ ap (λ (m : ℕ). 5 ^ m) z ∙ pow-zero 5 in
        let left : a * 2 ^ s * 2 ≡ 10 ^ n * 2 ^ f = rw (ea, ten-power n) (omega (arith, ap (λ (m : ℕ). 5 ^ n * m) (two ∙ p))) in
        let right : raw * t ≡ raw = rw (one, mul-one) in
        rw (k, left, right)
    go (no l) =
        let n = 18 - g in
        let k : pos g -ℤ pos 19 ≡ negsuc n = omega (orders, sub_out (pos g) (pos 19)) in
        let e : suc s + suc n ≡ f = omega arith in
        let p : 2 ^ f ≡ 2 ^ suc s * 2 ^ suc n = ap (λ (m : ℕ). 2 ^ m) (sym e) ∙ pow-add 2 (suc s) (suc n) in
        let z : g - 19 ≡ 0 = omega arith in
        let one : a ≡ 1 = ea ∙ ap (λ (m : ℕ). 5 ^ m) z ∙ pow-zero 5 in
        let m : 19 - g ≡ suc n = omega arith in
        let five : t ≡ 5 ^ suc n = et ∙ ap (λ (m : ℕ). 5 ^ m) m in
        let left : a * 2 ^ s * 2 * 2 ^ suc n ≡ 2 ^ f = rw one (omega (arith, ap (λ (m : ℕ). m * 2 ^ suc n) two)) in
        let right : raw * t * 2 ^ suc n ≡ raw * 10 ^ suc n = rw five (omega (arith, ap (λ (m : ℕ). raw * m) (ten-power (suc n)))) in
        leb-times (a * 2 ^ s * 2) (raw * t) (2 ^ suc n) (pow_pos (suc n)) ∙ rw (k, left, right)
