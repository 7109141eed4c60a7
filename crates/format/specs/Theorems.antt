-- What is proved of the range and the four manners, once over the width and the sign. A range is `count` numbers from its lowest
-- on, so each law is one of the floor of (x - lowest) / 2^W. Assumes nothing.
use Rattle.std.proofs.Math.Path.{◌≡◌, refl, sym, ap}
use Rattle.std.proofs.Common.{◌∙◌, true≢false, pow-suc, arith, pow_pos}
use Rattle.std.specs.Prelude.{◌↔◌, Bool, ◌&&◌, ℕ, suc, ◌+◌, ◌-◌, ◌^◌, ◌<◌, ℤ, ◌+ℤ◌, ◌-ℤ◌, ◌*ℤ◌, ◌≤ℤ◌}
use Rattle.std.proofs.Math.Bool.{true, false}
use Rattle.std.proofs.lemmas.Bool.{false≢true}
use Rattle.std.proofs.Math.IntN.{pos, +ℤ_idl}
use Rattle.std.specs.Int.Signed.{le_z}
use Rattle.laws.specs.Diff.{up, dn, add-out, sub_out, up_neg, dn-neg}
use Rattle.laws.specs.Floor.{IsFloor, floor, floor-out, floor-shr_z, shr_z-add}
use Rattle.laws.specs.Order.{mul-out}
use Rattle.laws.specs.Signed.{signed as kit}
use Rattle.laws.specs.Tests.{le-le_z, le_z-true}
use Rattle.format.specs.Meaning.{Sign, signed, unsigned, lowest, highest, fits, wrap}

-- x is a raw of the format
pub record InRange (s : Sign) (w : ℕ) (x : ℤ) : Type 0 where
  pub low : lowest s w ≤ℤ x
  pub high : x ≤ℤ highest s w

-- x and y differ by a whole number of m
pub record Congruent (m : ℕ) (x y : ℤ) : Type 0 where
  pub turns : ℤ
  pub differ : x ≡ y +ℤ turns *ℤ pos m

-- the ends, for `omega`: the magnitude of the lowest number, and of the highest
unfoldable pub limit : Sign → ℕ → Bool → ℕ
limit signed w true = 2 ^ (w - 1)
limit signed w false = 2 ^ (w - 1) - 1
limit unsigned w true = 0
limit unsigned w false = 2 ^ w - 1

pub lowest-out : (s : Sign) (w : ℕ) → (up (lowest s w) ≡ 0) × (dn (lowest s w) ≡ limit s w true)
unfolding lowest limit
lowest-out signed w = (up_neg (pos (2 ^ (w - 1))), dn-neg (pos (2 ^ (w - 1))))
lowest-out unsigned w = (refl, refl)

pub highest-out : (s : Sign) (w : ℕ) → (up (highest s w) ≡ limit s w false) × (dn (highest s w) ≡ 0)
unfolding highest limit
highest-out signed w = (refl, refl)
highest-out unsigned w = (refl, refl)

-- 2^W numbers, from the lowest to the highest
pub limit-span : (s : Sign) (w : ℕ) → 0 < w → limit s w true + limit s w false + 1 ≡ 2 ^ w
unfolding limit
limit-span signed w h =
    let e : w ≡ suc (w - 1) = omega arith in
    let p = ap (λ (k : ℕ). 2 ^ k) e ∙ pow-suc 2 (w - 1) in
    omega (arith, p, pow_pos (w - 1))
limit-span unsigned w h = omega (arith, pow_pos w)

-- the test says it
pub fits_in : (s : Sign) (w : ℕ) (x : ℤ) → fits s w x ≡ true → InRange s w x
unfolding fits
fits_in s w x e = go (le_z (lowest s w) x) refl e
  where
    go : (t : Bool) → le_z (lowest s w) x ≡ t → (t && le_z x (highest s w)) ≡ true → InRange s w x
    go true f g = record { low = le_z-true (lowest s w) x f; high = le_z-true x (highest s w) g }
    go false f g = absurd (false≢true g)

pub in-fits : {s : Sign} {w : ℕ} {x : ℤ} → InRange s w x → fits s w x ≡ true
unfolding fits
in-fits r = rw (le-le_z r.low, le-le_z r.high)

-- it is a raw exactly if the test says so; and it is not exactly if the test says no
pub fits_iff : (s : Sign) (w : ℕ) (x : ℤ) → (fits s w x ≡ true) ↔ InRange s w x
fits_iff s w x = (fits_in s w x, in-fits)

pub unfit-iff : (s : Sign) (w : ℕ) (x : ℤ) → (fits s w x ≡ false) ↔ (InRange s w x → ⊥)
unfit-iff s w x = (λ e r. true≢false (sym (in-fits r) ∙ e), λ h. go (fits s w x) refl h)
  where
    go : (t : Bool) → fits s w x ≡ t → (InRange s w x → ⊥) → t ≡ false
    go true e h = absurd (h (fits_in s w x e))
    go false e h = refl

-- ---- wrapping: in the range, congruent, and the only such number
module _ (s : Sign) (w : ℕ) (some : 0 < w) (x : ℤ) where
  pub wrap-in : InRange s w (wrap s w x)
  unfolding wrap
  wrap-in =
      let q = floor (x -ℤ lowest s w) (2 ^ w) in
      let back = q *ℤ pos (2 ^ w) in
      let f = floor-out (x -ℤ lowest s w) (2 ^ w) (pow_pos w) in
      record {
        low = omega (kit, f, sub_out x (lowest s w), sub_out x back, mul-out q (2 ^ w));
        high = omega (kit, f, sub_out x (lowest s w), sub_out x back, mul-out q (2 ^ w), lowest-out s w, highest-out s w, limit-span s w some);
      }

  pub wrap-congruent : Congruent (2 ^ w) x (wrap s w x)
  unfolding wrap
  wrap-congruent =
      let q = floor (x -ℤ lowest s w) (2 ^ w) in
      let back = q *ℤ pos (2 ^ w) in
      record { turns = q; differ = omega (kit, sub_out x back, add-out (x -ℤ back) back) }

  pub wrap-only : {y : ℤ} → InRange s w y → Congruent (2 ^ w) x y → y ≡ wrap s w x
  unfolding wrap
  wrap-only {y} r c =
      let m = 2 ^ w in
      let k = c.turns in
      let far = k *ℤ pos m in
      let base : IsFloor (y -ℤ lowest s w) m (pos 0) = record {
        low = omega (kit, r.low, sub_out y (lowest s w), mul-out (pos 0) m);
        high =
            omega (
              kit,
              r.high,
              sub_out y (lowest s w),
              mul-out (pos 0) m,
              add-out (pos 0 *ℤ pos m) (pos m),
              lowest-out s w,
              highest-out s w,
              limit-span s w
                  some,
            );
      } in
      let moved : x -ℤ lowest s w ≡ (y -ℤ lowest s w) +ℤ far =
      omega (kit, c.differ, add-out y far, sub_out x (lowest s w), sub_out y (lowest s w), add-out (y -ℤ lowest s w) far) in
      let none : floor (y -ℤ lowest s w) m ≡ pos 0 = sym (floor-shr_z (pow_pos w) base) in
      let turned : floor (x -ℤ lowest s w) m ≡ pos 0 +ℤ k =
      ap (λ (z : ℤ). floor z m) moved ∙ shr_z-add (y -ℤ lowest s w) k m (pow_pos w)
      ∙ ap (λ (z : ℤ). z +ℤ k) none in
      let same : floor (x -ℤ lowest s w) m *ℤ pos m ≡ far = ap (λ (z : ℤ). z *ℤ pos m) (turned ∙ +ℤ_idl k) in
      omega (kit, c.differ, add-out y far, same, sub_out x (floor (x -ℤ lowest s w) m *ℤ pos m))

  -- a raw is its own wrap
  pub wrap-id : InRange s w x → wrap s w x ≡ x
  wrap-id r = sym (wrap-only r (record { turns = pos 0; differ = omega (kit, mul-out (pos 0) (2 ^ w), add-out x (pos 0 *ℤ pos (2 ^ w))) }))
