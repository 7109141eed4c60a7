-- What is proved of the meaning, without code: the floor; exact where the target has the bits, and back again; and two steps through a
-- format that loses nothing which the target would keep. Assumes nothing.
use Rattle.std.specs.Prelude.{◌≡◌, ℕ, ◌*◌, ◌-◌, ◌^◌, ◌≤◌, ◌<◌, ℤ, pos, ◌*ℤ◌}
use Rattle.std.proofs.Common.{sym, ap, ◌∙◌, mul_comm, pow_pos}
use Rattle.laws.specs.Floor.{IsFloor, floor, shr_z-floor, shr_z-exact, shr_z-shr_z}
use Rattle.laws.specs.Powers.{power-sub}
use Rattle.laws.specs.Ring.{*ℤ-assoc}
use Rattle.convert.specs.Meaning.{steps_of}

-- ---- the steps are rounded toward minus infinity
pub convert-floor : (ff f : ℕ) (a : ℤ) → IsFloor (a *ℤ pos (2 ^ f)) (2 ^ ff) (steps_of ff f a)
convert-floor ff f a = shr_z-floor (a *ℤ pos (2 ^ f)) (2 ^ ff) (pow_pos ff)

-- a common factor goes away
pub scaled : (a : ℤ) (k m : ℕ) → 0 < k → floor (a *ℤ pos k) (k * m) ≡ floor a m
scaled a k m h = sym (shr_z-shr_z (a *ℤ pos k) k m) ∙ ap (λ (z : ℤ). floor z m) (shr_z-exact a k h)

-- the target has the bits: a whole number of steps
pub steps-more : (ff f : ℕ) (a : ℤ) → ff ≤ f → steps_of ff f a ≡ a *ℤ pos (2 ^ (f - ff))
steps-more ff f a h =
    ap (λ (n : ℕ). floor (a *ℤ pos n) (2 ^ ff)) (power-sub ff f h)
    ∙ ap (λ (z : ℤ). floor z (2 ^ ff)) (sym (*ℤ-assoc a (pos (2 ^ (f - ff))) (pos (2 ^ ff))))
    ∙ shr_z-exact (a *ℤ pos (2 ^ (f - ff))) (2 ^ ff) (pow_pos ff)

-- it has fewer: the extra bits are dropped
pub steps-fewer : (ff f : ℕ) (a : ℤ) → f ≤ ff → steps_of ff f a ≡ floor a (2 ^ (ff - f))
steps-fewer ff f a h =
    ap (λ (n : ℕ). floor (a *ℤ pos (2 ^ f)) n) (power-sub f ff h ∙ mul_comm (2 ^ (ff - f)) (2 ^ f))
    ∙ scaled a (2 ^ f) (2 ^ (ff - f)) (pow_pos f)
