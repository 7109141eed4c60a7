-- `log10_of` is the greatest k that is reached, and the only one; it rises with the value; below one, k runs over document 01's ranges.
-- The idea: a power reached lies above every lower power, so k is the greatest as soon as k is reached and k + 1 is not.
-- Assumes nothing.
use Rattle.std.specs.Prelude.{◌≡◌, refl, Bool, true, false, cond, ◌⊎◌, ℕ, zero, suc, ◌*◌, ◌^◌, ◌≤◌, ◌<◌, ℤ, pos, negsuc, ◌≤ℤ◌, ◌<ℤ◌}
use Rattle.std.proofs.Common.{inl, inr, mul-le-mul_right, mul-le-mul_left, le_of_mul-le-mul_right, arith, lit<, lit≤, pow_pos, pow_mono, leb-true, leb-false, le-leb}
use Rattle.std.proofs.Math.Nat.{pow-le-pow_right, one-le-pow}
use Rattle.std.proofs.Math.IntN.{suc_ℤ, pred_ℤ, suc-pred}
use Rattle.std.proofs.lemmas.Bool.{lt-leb}
use Rattle.laws.specs.Diff.{le_out, orders}
use Rattle.laws.specs.Order.{<ℤ-or-≥ℤ, ≤ℤ-antisym}
use Rattle.log10.specs.Meaning.{reaches, down_from, log10_of}

-- k is reached, and nothing greater is
pub record Greatest (raw f : ℕ) (k : ℤ) : Type 0 where
  pub reached : reaches raw f k ≡ true
  pub above : (j : ℤ) → k <ℤ j → reaches raw f j ≡ false

clash : (raw f : ℕ) (k : ℤ) → reaches raw f k ≡ true → reaches raw f k ≡ false → ⊥
clash raw f k p q = let z : ◌≡◌ {A = ℕ} 0 1 = cc in omega arith

-- there is at most one
pub greatest-unique : (raw f : ℕ) (k j : ℤ) → Greatest raw f k → Greatest raw f j → k ≡ j
greatest-unique raw f k j g h = pick (<ℤ-or-≥ℤ k j) (<ℤ-or-≥ℤ j k)
  where
    pick : (k <ℤ j) ⊎ (j ≤ℤ k) → (j <ℤ k) ⊎ (k ≤ℤ j) → k ≡ j
    pick (inl l) m = absurd (clash raw f j h.reached (g.above j l))
    pick (inr l) (inl m) = absurd (clash raw f k g.reached (h.above k m))
    pick (inr l) (inr m) = ≤ℤ-antisym m l

ten-mono : (i j : ℕ) → i ≤ j → 10 ^ i ≤ 10 ^ j
ten-mono i j h = pow-le-pow_right (lit< tt) h

-- what is not reached, nothing above it reaches
pub rises : (raw f : ℕ) (k j : ℤ) → k ≤ℤ j → reaches raw f k ≡ false → reaches raw f j ≡ false
unfolding reaches
rises raw f (pos k) (pos j) h e =
    let l : raw < 10 ^ k * 2 ^ f = leb-false (10 ^ k * 2 ^ f) raw e in
    let m = mul-le-mul_right (2 ^ f) (ten-mono k j (omega (arith, le_out h))) in
    lt-leb (10 ^ j * 2 ^ f) raw (omega arith)
rises raw f (pos k) (negsuc j) h e = absurd (omega (arith, le_out h))
rises raw f (negsuc k) (pos j) h e =
    let l : raw * 10 ^ suc k < 2 ^ f = leb-false (2 ^ f) (raw * 10 ^ suc k) e in
    let m = mul-le-mul_right (2 ^ f) (one-le-pow j 10 (lit< tt)) in
    let n = mul-le-mul_left raw (one-le-pow (suc k) 10 (lit< tt)) in
    lt-leb (10 ^ j * 2 ^ f) raw (omega arith)
rises raw f (negsuc k) (negsuc j) h e =
    let l : raw * 10 ^ suc k < 2 ^ f = leb-false (2 ^ f) (raw * 10 ^ suc k) e in
    let m = mul-le-mul_left raw (ten-mono (suc j) (suc k) (omega (arith, le_out h))) in
    lt-leb (2 ^ f) (raw * 10 ^ suc j) (omega arith)

next : (k j : ℤ) → k <ℤ j → suc_ℤ k ≤ℤ j
next (pos k) j l = omega orders
next (negsuc zero) j l = omega orders
next (negsuc (suc k)) j l = omega orders

-- so one step above decides
pub by_next : (raw f : ℕ) (k : ℤ) → reaches raw f k ≡ true → reaches raw f (suc_ℤ k) ≡ false → Greatest raw f k
by_next raw f k e n = record { reached = e; above = λ j l. rises raw f (suc_ℤ k) j (next k j l) n }

-- the search finds it, wherever nothing above its start is reached and its last step is
abbrev lowest : ℤ → ℕ → ℤ
lowest k zero = k
lowest k (suc n) = lowest (pred_ℤ k) n

found : (raw f : ℕ) (k : ℤ) (n : ℕ) → reaches raw f (suc_ℤ k) ≡ false → reaches raw f (lowest k n) ≡ true → Greatest raw f (down_from raw f k n)
unfolding down_from
found raw f k zero e l = by_next raw f k l e
found raw f k (suc n) e l = go (reaches raw f k) refl (λ h. found raw f (pred_ℤ k) n (rw suc-pred h) l)
  where
    go : (t : Bool) → reaches raw f k ≡ t → (reaches raw f k ≡ false → Greatest raw f (down_from raw f (pred_ℤ k) n))
        → Greatest raw f (cond t k (down_from raw f (pred_ℤ k) n))
    go true h more = by_next raw f k h e
    go false h more = more h

-- `log10_of` is the greatest k with 10^k <= raw / 2^F, for every raw of 64 bits but 0 and every F
pub log10-greatest : (raw f : ℕ) → 0 < raw → raw < 2 ^ 64 → f ≤ 64 → Greatest raw f (log10_of raw f)
unfolding log10_of reaches
log10-greatest raw f h b l =
    found raw f (pos 19) 39
    (lt-leb (10 ^ 20 * 2 ^ f) raw (omega (arith, mul-le-mul_left (10 ^ 20) (pow_pos f))))
    (le-leb (2 ^ f) (raw * 10 ^ 20) (omega (arith, pow_mono {i = f} {j = 64} l)))

-- whatever is the greatest, is `log10_of`
pub log10-only : (raw f : ℕ) (k : ℤ) → 0 < raw → raw < 2 ^ 64 → f ≤ 64 → Greatest raw f k → k ≡ log10_of raw f
log10-only raw f k h b l g = greatest-unique raw f k (log10_of raw f) g (log10-greatest raw f h b l)

-- k lies between what is reached and what is not
pub at_least : (raw f : ℕ) (k j : ℤ) → Greatest raw f k → reaches raw f j ≡ true → j ≤ℤ k
at_least raw f k j g e = pick (<ℤ-or-≥ℤ k j)
  where
    pick : (k <ℤ j) ⊎ (j ≤ℤ k) → j ≤ℤ k
    pick (inl l) = absurd (clash raw f j e (g.above j l))
    pick (inr l) = l

pub at_most : (raw f : ℕ) (k j : ℤ) → Greatest raw f k → reaches raw f (suc_ℤ j) ≡ false → k ≤ℤ j
at_most raw f k j g e = pick (<ℤ-or-≥ℤ j k)
  where
    pick : (j <ℤ k) ⊎ (k ≤ℤ j) → k ≤ℤ j
    pick (inl l) = absurd (clash raw f k g.reached (rises raw f (suc_ℤ j) k (next j k l) e))
    pick (inr l) = l

-- A greater value reaches what a lesser one does: a / 2^f <= b / 2^g is a 2^g <= b 2^f.
pub carries : (a f b g : ℕ) (k : ℤ) → a * 2 ^ g ≤ b * 2 ^ f → reaches a f k ≡ true → reaches b g k ≡ true
unfolding reaches
carries a f b g (pos n) h e =
    let l = mul-le-mul_right (2 ^ g) (leb-true (10 ^ n * 2 ^ f) a e) in
    let m : 10 ^ n * 2 ^ g * 2 ^ f ≤ b * 2 ^ f = omega arith in
    le-leb (10 ^ n * 2 ^ g) b (le_of_mul-le-mul_right m (pow_pos f))
carries a f b g (negsuc n) h e =
    let l = mul-le-mul_right (2 ^ g) (leb-true (2 ^ f) (a * 10 ^ suc n) e) in
    let p = mul-le-mul_right (10 ^ suc n) h in
    let m : 2 ^ g * 2 ^ f ≤ b * 10 ^ suc n * 2 ^ f = omega arith in
    le-leb (2 ^ g) (b * 10 ^ suc n) (le_of_mul-le-mul_right m (pow_pos f))

-- So the logarithm rises with the value, and depends on the value alone: raw and F stand for it, in whatever format.
pub log10-mono : (a f b g : ℕ) → 0 < a → a < 2 ^ 64 → f ≤ 64 → 0 < b → b < 2 ^ 64 → g ≤ 64 → a * 2 ^ g ≤ b * 2 ^ f → log10_of a f ≤ℤ log10_of b g
log10-mono a f b g ha ka la hb kb lb h =
    let k = log10_of a f in
    at_least b g (log10_of b g) k (log10-greatest b g hb kb lb) (carries a f b g k h (log10-greatest a f ha ka la).reached)

pub log10-value : (a f b g : ℕ) → 0 < a → a < 2 ^ 64 → f ≤ 64 → 0 < b → b < 2 ^ 64 → g ≤ 64 → a * 2 ^ g ≡ b * 2 ^ f → log10_of a f ≡ log10_of b g
log10-value a f b g ha ka la hb kb lb e =
    ≤ℤ-antisym (log10-mono a f b g ha ka la hb kb lb (omega arith)) (log10-mono b g a f hb kb lb ha ka la (omega arith))

-- "For a value below one, seen as a W-bit fraction, k runs from -1 down to -3, -5, -10, -20 for W = 8, 16, 32, 64" (`negsuc d` is -(d + 1)).
-- That the ends are met is in Cases.
pub below_one : (w d raw : ℕ) → w ≤ 64 → 2 ^ w ≤ 10 ^ suc d → 0 < raw → raw < 2 ^ w → (negsuc d ≤ℤ log10_of raw w) × (log10_of raw w ≤ℤ negsuc 0)
unfolding reaches
below_one w d raw l p h b =
    let g = log10-greatest raw w h (omega (arith, pow_mono {i = w} {j = 64} l)) l in
    let k = log10_of raw w in (
      at_least raw w k (negsuc d) g (le-leb (2 ^ w) (raw * 10 ^ suc d) (omega (arith, mul-le-mul_right (10 ^ suc d) h))),
      at_most raw w k (negsuc 0) g
          (lt-leb (10 ^ 0 * 2 ^ w) raw (omega arith)),
    )

pub below-one-8 : (raw : ℕ) → 0 < raw → raw < 2 ^ 8 → (negsuc 2 ≤ℤ log10_of raw 8) × (log10_of raw 8 ≤ℤ negsuc 0)
below-one-8 raw h b = below_one 8 2 raw (lit≤ tt) (lit≤ tt) h b

pub below-one-16 : (raw : ℕ) → 0 < raw → raw < 2 ^ 16 → (negsuc 4 ≤ℤ log10_of raw 16) × (log10_of raw 16 ≤ℤ negsuc 0)
below-one-16 raw h b = below_one 16 4 raw (lit≤ tt) (lit≤ tt) h b

pub below-one-32 : (raw : ℕ) → 0 < raw → raw < 2 ^ 32 → (negsuc 9 ≤ℤ log10_of raw 32) × (log10_of raw 32 ≤ℤ negsuc 0)
below-one-32 raw h b = below_one 32 9 raw (lit≤ tt) (lit≤ tt) h b

pub below-one-64 : (raw : ℕ) → 0 < raw → raw < 2 ^ 64 → (negsuc 19 ≤ℤ log10_of raw 64) × (log10_of raw 64 ≤ℤ negsuc 0)
below-one-64 raw h b = below_one 64 19 raw (lit≤ tt) (lit≤ tt) h b
