-- A number as a sign and a magnitude, placed in a format by the magnitude alone: what the code tests and computes, and that it is
-- what the meaning says. Assumes nothing.
use Rattle.std.specs.Prelude.{◌≡◌, Option, Some, None, Bool, cond, ℕ, ◌+◌, ◌*◌, ◌-◌, ◌/◌, ◌%◌, ◌^◌, ◌≤◌, ◌<◌, leb, ltb, ℤ, ◌+ℤ◌, ◌*ℤ◌}
use Rattle.std.proofs.Math.Path.{refl, ap}
use Rattle.std.proofs.Common.{sym, add-one, ◌∙◌, div-add-mod', mod-eq_of_lt, arith, pow_pos, ◌⊎◌, inl, inr}
use Rattle.std.proofs.Math.Bool.{true, false}
use Rattle.std.proofs.Math.Nat.{mod-lt, add-mod, add-mod_right, zero-mod}
use Rattle.std.proofs.Math.Pow.{mod-mod-pow}
use Rattle.std.proofs.Math.Dec.{eqb}
use Rattle.std.proofs.Math.Decide.{dec_le}
use Rattle.std.specs.Int.Signed.{lt_z}
use Rattle.std.specs.Prelude.{unsigned_abs}
use Rattle.std.proofs.Math.IntN.{pos, negsuc, neg_ℤ}
use Rattle.std.specs.Int.Bits.{bit_and}
use Rattle.std.proofs.lemmas.Nat.{and_mask}
use borrow.Author.Tests.{lt-ltb, le-ltb, eq-eqb, ne_eqb, le-leb, lt-leb, eqb-true, eqb-false, ltb-true, ltb-false}
use Rattle.laws.specs.Diff.{up, dn, up_neg, dn-neg, add-out}
use Rattle.laws.specs.Order.{mul-out}
use Rattle.laws.specs.Powers.{power-sub}
use Rattle.laws.specs.Ring.{*ℤ-distribʳ}
use Rattle.laws.specs.Signed.{signed as kit}
use Rattle.format.specs.Meaning.{Sign, signed, unsigned, wrap, with_sign}
use Rattle.format.specs.Theorems.{Congruent, limit, lowest-out, highest-out, limit-span}
use Rattle.format.specs.Theorems.{wrap-in, wrap-only, wrap-congruent}

pub sign-out : (neg : Bool) (m : ℕ) → (up (with_sign neg m) ≡ cond neg 0 m) × (dn (with_sign neg m) ≡ cond neg m 0)
unfolding with_sign
sign-out true m = (up_neg (pos m), dn-neg (pos m))
sign-out false m = (refl, refl)

-- ---- the residue: the W low bits of the magnitude, and what makes them up to 2^W where the number is negative
unfoldable pub residue : Bool → ℕ → ℕ → ℕ
residue neg low w = cond neg (cond (eqb (low % 2 ^ w) 0) 0 (2 ^ w - low % 2 ^ w)) (low % 2 ^ w)

limit-unsigned : (w : ℕ) → limit unsigned w true ≡ 0
unfolding limit
limit-unsigned w = refl

-- 2^64 is a whole number of 2^W
module _ (high low w : ℕ) (some : 0 < w) (word : w ≤ 64) where
  split : high * 2 ^ 64 + low ≡ (high * 2 ^ (64 - w) + low / 2 ^ w) * 2 ^ w + low % 2 ^ w
  split = omega (arith, ap (λ (k : ℕ). high * k) (power-sub w 64 word), div-add-mod' low (2 ^ w))

  pub residue-wraps : (neg : Bool) → pos (residue neg low w) ≡ wrap unsigned w (with_sign neg (high * 2 ^ 64 + low))
  unfolding residue
  residue-wraps false =
      let k = pos (high * 2 ^ (64 - w) + low / 2 ^ w) in
      let r = low % 2 ^ w in
      wrap-only unsigned w some (with_sign false (high * 2 ^ 64 + low))
      (record {
        low = omega (kit, lowest-out unsigned w);
        high = omega (kit, highest-out unsigned w, limit-span unsigned w some, limit-unsigned w, mod-lt low (pow_pos w));
      })
      (record { turns = k; differ = omega (kit, split, sign-out false (high * 2 ^ 64 + low), mul-out k (2 ^ w), add-out (pos r) (k *ℤ pos (2 ^ w))) })
  residue-wraps true = go (eqb (low % 2 ^ w) 0) refl
    where
      go : (t : Bool) → eqb (low % 2 ^ w) 0 ≡ t → pos (cond t 0 (2 ^ w - low % 2 ^ w)) ≡ wrap unsigned w (with_sign true (high * 2 ^ 64 + low))
      go true e =
          let n = high * 2 ^ (64 - w) + low / 2 ^ w in
          let k = neg_ℤ (pos n) in
          wrap-only unsigned w some (with_sign true (high * 2 ^ 64 + low))
          (record { low = omega (kit, lowest-out unsigned w); high = omega (kit, highest-out unsigned w) })
          (record {
            turns = k;
            differ =
                omega (
                  kit,
                  split,
                  eqb-true (low % 2 ^ w) 0 e,
                  sign-out true (high * 2 ^ 64 + low),
                  ap (λ (v : ℕ). v * 2 ^ w) (up_neg (pos n)),
                  ap
                      (λ (v : ℕ). v * 2 ^ w) (dn-neg (pos n)),
                  mul-out k (2 ^ w),
                  add-out (pos 0) (k *ℤ pos (2 ^ w)),
                );
          })
      go false e =
          let n = high * 2 ^ (64 - w) + low / 2 ^ w in
          let k = negsuc n in
          let r = 2 ^ w - low % 2 ^ w in
          wrap-only unsigned w some (with_sign true (high * 2 ^ 64 + low))
          (record {
            low = omega (kit, lowest-out unsigned w);
            high = omega (kit, highest-out unsigned w, limit-span unsigned w some, limit-unsigned w, eqb-false (low % 2 ^ w) 0 e);
          })
          (record {
            turns = k;
            differ = omega (kit, split, mod-lt low (pow_pos w), sign-out true (high * 2 ^ 64 + low), mul-out k (2 ^ w), add-out (pos r) (k *ℤ pos (2 ^ w)));
          })

limit-signed : (w : ℕ) → (limit signed w true ≡ 2 ^ (w - 1)) × (limit signed w false ≡ 2 ^ (w - 1) - 1)
unfolding limit
limit-signed w = (refl, refl)

-- ---- a residue as a signed number: itself in the lower half of 2^W, and less 2^W in the upper half
unfoldable pub resigned : ℕ → ℕ → ℤ
resigned u w = cond (ltb u (2 ^ (w - 1))) (pos u) (negsuc (2 ^ w - 1 - u))

pub resigned-wraps : (w u : ℕ) (x : ℤ) → 0 < w → pos u ≡ wrap unsigned w x → resigned u w ≡ wrap signed w x
unfolding resigned
resigned-wraps w u x some e = go (ltb u (2 ^ (w - 1))) refl
  where
    far : Congruent (2 ^ w) x (wrap unsigned w x)
    far = wrap-congruent unsigned w some x

    top : u ≤ limit unsigned w false
    top = omega (kit, (wrap-in unsigned w some x).high, e, highest-out unsigned w)

    go : (t : Bool) → ltb u (2 ^ (w - 1)) ≡ t → cond t (pos u) (negsuc (2 ^ w - 1 - u)) ≡ wrap signed w x
    go true t =
        wrap-only signed w some x
        (record { low = omega (kit, lowest-out signed w); high = omega (kit, highest-out signed w, ltb-true u (2 ^ (w - 1)) t, limit-signed w) })
        (record { turns = far.turns; differ = far.differ ∙ ap (λ (z : ℤ). z +ℤ far.turns *ℤ pos (2 ^ w)) (sym e) })
    go false t =
        let k = far.turns in
        let v = negsuc (2 ^ w - 1 - u) in
        wrap-only signed w some x
        (record {
          low = omega (kit, lowest-out signed w, ltb-false u (2 ^ (w - 1)) t, limit-signed w, pow_pos (w - 1), limit-span signed w some);
          high = omega (kit, highest-out signed w);
        })
        (record {
          turns = k +ℤ pos 1;
          differ = omega (
            kit,
            far.differ,
            e,
            top,
            limit-span unsigned w some,
            limit-unsigned w,
            *ℤ-distribʳ k (pos 1) (pos (2 ^ w)),
            mul-out (pos 1) (2 ^ w),
            add-out (k *ℤ pos (2 ^ w)) (pos 1 *ℤ pos (2 ^ w)),
            add-out (wrap unsigned w x) (k *ℤ pos (2 ^ w)),
            add-out v ((k +ℤ pos 1) *ℤ pos (2 ^ w)),
          );
        })

-- ---- two rests of m that add up to a whole number of m
up-to : (m a b : ℕ) → a < m → b < m → (b + a) % m ≡ 0 → (b + a ≡ 0) ⊎ (b + a ≡ m)
up-to m a b h k z = go (dec_le m (b + a))
  where
    go : Dec (m ≤ b + a) → (b + a ≡ 0) ⊎ (b + a ≡ m)
    go (no l) = inl (sym (mod-eq_of_lt (omega arith)) ∙ z)
    go (yes l) =
        let back : b + a ≡ b + a - m + m = omega arith in
        let rest : b + a - m ≡ 0 = sym (mod-eq_of_lt (omega arith)) ∙ sym (add-mod_right (b + a - m) m) ∙ ap (λ (k : ℕ). k % m) (sym back) ∙ z in
        inr (omega arith)

-- ---- the residue as the code finds it, with `all` the mask of W bits
module _ (low w all : ℕ) (mask : all ≡ 2 ^ w - 1) where
  pub masked : bit_and low all ≡ low % 2 ^ w
  masked = ap (bit_and low) mask ∙ and_mask low w

  -- below 0: of the word that makes the magnitude up to 2^64
  pub residue-turned : {neg : Bool} (n : ℕ) → neg ≡ true → (n + low) % 2 ^ 64 ≡ 0 → w ≤ 64 → bit_and n all ≡ residue neg low w
  unfolding residue
  residue-turned {neg = neg} n t z h =
      let m = 2 ^ w in
      let word : 64 - w + w ≡ 64 = omega arith in
      let whole : (n % m + low % m) % m ≡ 0 =
      sym (add-mod n low m) ∙ sym (mod-mod-pow (n + low) (64 - w) w) ∙ ap (λ (k : ℕ). (n + low) % 2 ^ k % m) word
      ∙ ap (λ (k : ℕ). k % m) z ∙ zero-mod m in
      ap (bit_and n) mask ∙ and_mask n w ∙ go (up-to m (low % m) (n % m) (mod-lt low (pow_pos w)) (mod-lt n (pow_pos w)) whole)
    where
      go : (n % 2 ^ w + low % 2 ^ w ≡ 0) ⊎ (n % 2 ^ w + low % 2 ^ w ≡ 2 ^ w) → n % 2 ^ w ≡ residue neg low w
      go (inl e) = simp (t, eq-eqb (low % 2 ^ w) 0 (omega arith)) (omega arith)
      go (inr e) = simp (t, ne_eqb (low % 2 ^ w) 0 (λ z. absurd (omega (arith, z, e, mod-lt n (pow_pos w))))) (omega arith)

  pub residue-low : {neg : Bool} → neg ≡ false → bit_and low all ≡ residue neg low w
  unfolding residue
  residue-low t = rw t masked

-- ---- two words within a limit of one word: the magnitude, where it is
unfoldable pub within_of : ℕ → ℕ → ℕ → Option ℕ
within_of high low end = cond (leb (high * 2 ^ 64 + low) end) (Some (high * 2 ^ 64 + low)) None

module _ (high low end : ℕ) where
  pub within-in : high ≡ 0 → low ≤ end → Some low ≡ within_of high low end
  unfolding within_of
  within-in z h = let e : low ≡ high * 2 ^ 64 + low = omega arith in rw (le-leb (high * 2 ^ 64 + low) end (omega arith)) (ap Some e)

  pub within-past : (high ≡ 0 → end < low) → end < 2 ^ 64 → None ≡ within_of high low end
  unfolding within_of
  within-past h e = rw (lt-leb (high * 2 ^ 64 + low) end (far (dec_le 1 high)))
    where
      far : Dec (1 ≤ high) → end < high * 2 ^ 64 + low
      far (yes z) = omega arith
      far (no z) = let k : high ≡ 0 = omega arith in let b = h k in omega arith

-- ---- a residue, as the code makes it signed
-- what the code turns of the upper half, with `t` the highest residue
pub turned : (u w : ℕ) {t : ℕ} → t ≡ 2 ^ w - 1 → neg_ℤ (pos (t - u + 1)) ≡ negsuc (2 ^ w - 1 - u)
turned u w {t} e = ap (λ (k : ℕ). neg_ℤ (pos k)) (add-one (t - u)) ∙ ap (λ (k : ℕ). negsuc (k - u)) e

module _ (u w : ℕ) {r : ℤ} where
  pub resigned-low : u < 2 ^ (w - 1) → r ≡ pos u → r ≡ resigned u w
  unfolding resigned
  resigned-low h q = rw (lt-ltb u (2 ^ (w - 1)) h) q

  pub resigned-high : 2 ^ (w - 1) ≤ u → r ≡ negsuc (2 ^ w - 1 - u) → r ≡ resigned u w
  unfolding resigned
  resigned-high h q = rw (le-ltb u (2 ^ (w - 1)) h) q

pub residue-below : (neg : Bool) (low w : ℕ) → residue neg low w < 2 ^ w
unfolding residue
residue-below false low w = mod-lt low (pow_pos w)
residue-below true low w = go (eqb (low % 2 ^ w) 0) refl
  where
    go : (t : Bool) → eqb (low % 2 ^ w) 0 ≡ t → cond t 0 (2 ^ w - low % 2 ^ w) < 2 ^ w
    go true e = pow_pos w
    go false e = omega (arith, eqb-false (low % 2 ^ w) 0 e, pow_pos w)

-- ---- the raw that a residue stands for, by the sign
unfoldable pub residue_raw : Sign → ℕ → ℕ → ℤ
residue_raw signed u w = resigned u w
residue_raw unsigned u w = pos u

-- the raw of a number's residue is the number's wrap
module _ (high low w : ℕ) (some : 0 < w) (word : w ≤ 64) (neg : Bool) where
  pub residue-raw-wraps : (s : Sign) → residue_raw s (residue neg low w) w ≡ wrap s w (with_sign neg (high * 2 ^ 64 + low))
  unfolding residue_raw
  residue-raw-wraps signed = resigned-wraps w (residue neg low w) (with_sign neg (high * 2 ^ 64 + low)) some (residue-wraps high low w some word neg)
  residue-raw-wraps unsigned = residue-wraps high low w some word neg

-- a number from its sign and its magnitude
pub sign-back : (x : ℤ) → with_sign (lt_z x (pos 0)) (unsigned_abs x) ≡ x
unfolding with_sign
sign-back (pos n) = rw (le-ltb n 0 (omega arith))
sign-back (negsuc n) = refl
