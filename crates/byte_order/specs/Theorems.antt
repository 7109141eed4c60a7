-- Byte order, of the meaning: swapping twice is the identity, and so is a raw to bytes and back, in either order.
-- Assumes nothing.
use Rattle.std.specs.Prelude.{◌≡◌, Bool, true, false, ◌||◌, ℕ, zero, suc, ◌+◌, ◌*◌, ◌/◌, ◌%◌, ◌^◌, ◌<◌, eqb, ℤ, negsuc, ◌≤ℤ◌, length}
use Rattle.std.proofs.Math.Path.{refl, ap}
use Rattle.std.proofs.Common.{sym, ◌∙◌, subst, arith, div-add-mod', mod-lt, lit<, pow-add, pow_pos, eqb-true, eq-eqb}
use Rattle.std.proofs.lemmas.Bool.{false≢true}
use mathlib.Core.List.{List, [], ◌∷◌, reverse, reverse-cons}
use Rattle.std.proofs.Math.IntN.{pos}
use Rattle.std.proofs.lemmas.List.{length-reverse}
use Rattle.laws.specs.Diff.{up}
use Rattle.laws.specs.Signed.{signed as kit}
use Rattle.format.specs.Meaning.{Sign, unsigned, is_width, fault_of, lowest, highest, wrap, done}
use Rattle.format.specs.Settle.{unless-none}
use Rattle.format.specs.Theorems.{InRange, Congruent, limit-span, highest-out, wrap-in, wrap-congruent, wrap-id}
use Rattle.format.specs.Fault.{width-bounds, fault-free}
use Rattle.exact.specs.Meaning.{or_else}
use Rattle.exact.specs.Theorems.{wrap-same}
use Rattle.byte_order.specs.Meaning.{le_bytes, from_le, from_be, low_bits, little_of, big_of, length_fault, from_bytes_of, swap_of}
use Rattle.byte_order.specs.Bytes.{below_next, be-last, swapped-reversed}

-- ---- numbers: n bytes hold what is below 2^(8 n)
pub bytes_back : (n x : ℕ) → x < 2 ^ (8 * n) → from_le (le_bytes n x) ≡ x
unfolding from_le le_bytes
bytes_back zero x h = omega arith
bytes_back (suc n) x h =
    let s : 8 * suc n ≡ 8 * n + 8 = omega arith in
    let e : 2 ^ (8 * suc n) ≡ 2 ^ (8 * n) * 256 = ap (λ (j : ℕ). 2 ^ j) s ∙ pow-add 2 (8 * n) 8 in
    let l : x / 256 < 2 ^ (8 * n) = omega (arith, div-add-mod' x 256) in
    ap (λ (k : ℕ). k * 256 + x % 256) (bytes_back n (x / 256) l) ∙ div-add-mod' x 256

-- with the first byte highest it is the other order's number
pub be-reverse : (l : List ℕ) → from_be 0 (reverse l) ≡ from_le l
unfolding from_be from_le
be-reverse [] = refl
be-reverse (b ∷ t) = ap (from_be 0) (reverse-cons b t) ∙ be-last 0 b (reverse t) ∙ ap (λ (k : ℕ). k * 256 + b) (be-reverse t)

be-below : (n x a k : ℕ) → a < 2 ^ (8 * k) → from_be a (le_bytes n x) < 2 ^ (8 * (k + n))
unfolding from_be le_bytes
be-below zero x a k h = let s : k + 0 ≡ k = omega arith in rw s h
be-below (suc n) x a k h =
    let s : k + suc n ≡ k + 1 + n = omega arith in
    rw s (be-below n (x / 256) (a * 256 + x % 256) (k + 1) (below_next a k (x % 256) h (mod-lt x (lit< tt))))

pub swap-below : (n x : ℕ) → from_be 0 (le_bytes n x) < 2 ^ (8 * n)
swap-below n x = let s : 0 + n ≡ n = omega arith in subst (λ (k : ℕ). from_be 0 (le_bytes n x) < 2 ^ (8 * k)) s (be-below n x 0 0 (pow_pos (8 * 0)))

pub swap-back : (n x : ℕ) → x < 2 ^ (8 * n) → from_be 0 (le_bytes n (from_be 0 (le_bytes n x))) ≡ x
swap-back n x h = ap (from_be 0) (swapped-reversed n x) ∙ be-reverse (le_bytes n x) ∙ bytes_back n x h

-- ---- raws: a width is whole bytes
pub eights : (w : ℕ) → is_width w ≡ true → w ≡ 8 * (w / 8)
unfolding is_width
eights w h = go (eqb w 8) (eqb w 16) (eqb w 32) (eqb w 64) refl refl refl refl h
  where
    go : (a b c d : Bool) → eqb w 8 ≡ a → eqb w 16 ≡ b → eqb w 32 ≡ c → eqb w 64 ≡ d → (a || b || c || d) ≡ true → w ≡ 8 * (w / 8)
    go true b c d e f g h t = omega (arith, eqb-true w 8 e)
    go false true c d e f g h t = omega (arith, eqb-true w 16 f)
    go false false true d e f g h t = omega (arith, eqb-true w 32 g)
    go false false false true e f g h t = omega (arith, eqb-true w 64 h)
    go false false false false e f g h t = absurd (false≢true t)

module _ (w : ℕ) (h : 0 < w) where
  low-pos : (a : ℤ) → pos (low_bits w a) ≡ wrap unsigned w a
  unfolding low_bits lowest
  low-pos a = go (wrap unsigned w a) (wrap-in unsigned w h a).low
    where
      go : (z : ℤ) → pos 0 ≤ℤ z → pos (up z) ≡ z
      go (pos n) l = refl
      go (negsuc n) l = absurd (omega kit)

  low_below : (a : ℤ) → low_bits w a < 2 ^ w
  low_below a = omega (kit, low-pos a, (wrap-in unsigned w h a).high, highest-out unsigned w, limit-span unsigned w h)

  low_same : {x y : ℤ} → Congruent (2 ^ w) x y → low_bits w x ≡ low_bits w y
  unfolding low_bits
  low_same c = ap up (wrap-same unsigned w h c)

  low-id : (v : ℕ) → v < 2 ^ w → low_bits w (pos v) ≡ v
  unfolding low_bits lowest highest
  low-id v l = ap up (wrap-id unsigned w h (pos v) (record { low = omega kit; high = omega kit }))

  raw-back : (s : Sign) (a : ℤ) → InRange s w a → wrap s w (pos (low_bits w a)) ≡ a
  raw-back s a r = ap (wrap s w) (low-pos a) ∙ sym (wrap-same s w h (wrap-congruent unsigned w h a)) ∙ wrap-id s w h a r

-- ---- the theorems
module _ (s : Sign) (w : ℕ) (width : is_width w ≡ true) (a : ℤ) (r : InRange s w a) where
  some : 0 < w
  some = omega (arith, width-bounds w width)

  held : low_bits w a < 2 ^ (8 * (w / 8))
  held = subst (λ (k : ℕ). low_bits w a < 2 ^ k) (eights w width) (low_below w some a)

  pub to-from-le : wrap s w (pos (from_le (little_of w a))) ≡ a
  to-from-le = ap (λ (v : ℕ). wrap s w (pos v)) (bytes_back (w / 8) (low_bits w a) held) ∙ raw-back w some s a r

  pub to-from-be : wrap s w (pos (from_be 0 (big_of w a))) ≡ a
  to-from-be = ap (λ (v : ℕ). wrap s w (pos v)) (be-reverse (little_of w a)) ∙ to-from-le

  pub swap-twice : wrap s w (pos (from_be 0 (little_of w (wrap s w (pos (from_be 0 (little_of w a))))))) ≡ a
  swap-twice =
      let v = from_be 0 (little_of w a) in
      let low : v < 2 ^ w = subst (λ (k : ℕ). v < 2 ^ k) (sym (eights w width)) (swap-below (w / 8) (low_bits w a)) in
      let once : low_bits w (wrap s w (pos v)) ≡ v = sym (low_same w some (wrap-congruent s w some (pos v))) ∙ low-id w some v low in
      ap (λ (x : ℕ). wrap s w (pos (from_be 0 (le_bytes (w / 8) x)))) once
      ∙ ap (λ (x : ℕ). wrap s w (pos x)) (swap-back (w / 8) (low_bits w a) held)
      ∙ raw-back w some s a r

-- ---- the same of the outcomes
pub bytes-length : (n x : ℕ) → length (le_bytes n x) ≡ n
unfolding le_bytes
bytes-length zero x = refl
bytes-length (suc n) x = ap suc (bytes-length n (x / 256))

fine : (w f n : ℕ) → fault_of w f ≡ 0 → n ≡ w / 8 → or_else (fault_of w f) (length_fault w n) ≡ 0
unfolding or_else length_fault
fine w f n e q = rw (e, eq-eqb n (w / 8) q)

-- a raw of the format written and read back is the raw, in either order; and a swapped raw swapped is the raw
module _ (s : Sign) (w f : ℕ) (free : fault_of w f ≡ 0) (a : ℤ) (r : InRange s w a) where
  pub read-back-le : from_bytes_of s w f (length (little_of w a)) (from_le (little_of w a)) ≡ done a false
  read-back-le =
      unless-none (or_else (fault_of w f) (length_fault w (length (little_of w a)))) (done (wrap s w (pos (from_le (little_of w a)))) false)
      (fine w f (length (little_of w a)) free (bytes-length (w / 8) (low_bits w a)))
      ∙ ap (λ (z : ℤ). done z false) (to-from-le s w (fault-free w f free).0 a r)

  pub read-back-be : from_bytes_of s w f (length (big_of w a)) (from_be 0 (big_of w a)) ≡ done a false
  read-back-be =
      unless-none (or_else (fault_of w f) (length_fault w (length (big_of w a)))) (done (wrap s w (pos (from_be 0 (big_of w a)))) false)
      (fine w f (length (big_of w a)) free (length-reverse (little_of w a) ∙ bytes-length (w / 8) (low_bits w a)))
      ∙ ap (λ (z : ℤ). done z false) (to-from-be s w (fault-free w f free).0 a r)

  pub swapped-back : (y : ℤ) → swap_of s w f a ≡ done y false → swap_of s w f y ≡ done a false
  swapped-back y e =
      let once = unless-none (fault_of w f) (done (wrap s w (pos (from_be 0 (little_of w a)))) false) free in
      let same : wrap s w (pos (from_be 0 (little_of w a))) ≡ y = taken (sym once ∙ e) in
      unless-none (fault_of w f) (done (wrap s w (pos (from_be 0 (little_of w y)))) false) free
      ∙ ap (λ (z : ℤ). done (wrap s w (pos (from_be 0 (little_of w z)))) false) (sym same)
      ∙ ap (λ (z : ℤ). done z false) (swap-twice s w (fault-free w f free).0 a r)
    where
      taken : {x y : ℤ} → done x false ≡ done y false → x ≡ y
      taken e = cc
