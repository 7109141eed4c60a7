-- Shifts of a word by any number of places, as `unbounded_shl` and `unbounded_shr` give them: by all its places and more no bit is left, and of a
-- signed word the sign. Assumes nothing.
use Rattle.std.specs.Prelude.{◌≡◌, refl, cond, Bool, true, false, ℕ, ◌*◌, ◌/◌, ◌%◌, ◌^◌, ◌<◌, ◌≤◌, ◌-◌, ltb, min, ℤ, pos, negsuc}
use Rattle.std.proofs.Common.{sym, ap, ◌∙◌, arith, lt_of_lt_of_le, mul_assoc, pow_mono, ltb-false, SFits}
use Rattle.std.proofs.Math.Nat.{min-eq_left, min-eq_right}
use Rattle.std.proofs.Math.Decide.{dec_le}
use native.Mathlib.Nat.{div-eq_of_lt, mul-mod_left}
use mir.Syntax.{Width}
use mir.Val.{hbits}
use Rattle.laws.specs.Floor.{floor}
use Rattle.laws.specs.Powers.{power-sub}

module _ (w a n : ℕ) where
  pub left : cond (ltb n w) (a * 2 ^ n % 2 ^ w) 0 ≡ a * 2 ^ n % 2 ^ w
  left = go (ltb n w) refl
    where
      go : (b : Bool) → ltb n w ≡ b → cond b (a * 2 ^ n % 2 ^ w) 0 ≡ a * 2 ^ n % 2 ^ w
      go true e = refl
      go false e =
          sym (ap (λ (x : ℕ). a * x % 2 ^ w) (power-sub w n (ltb-false n w e)) ∙ ap (λ (x : ℕ). x % 2 ^ w) (sym (mul_assoc a (2 ^ (n - w)) (2 ^ w)))
          ∙ mul-mod_left (a * 2 ^ (n - w)) (2 ^ w))

  pub right : a < 2 ^ w → cond (ltb n w) (a / 2 ^ n) 0 ≡ a / 2 ^ n
  right f = go (ltb n w) refl
    where
      go : (b : Bool) → ltb n w ≡ b → cond b (a / 2 ^ n) 0 ≡ a / 2 ^ n
      go true e = refl
      go false e = sym (div-eq_of_lt (lt_of_lt_of_le f (pow_mono (ltb-false n w e))))

-- by as many places as there are bits below the sign, and by more
gone : (a k n : ℕ) → a < 2 ^ k → k ≤ n → a / 2 ^ n ≡ 0
gone a k n h l = div-eq_of_lt (lt_of_lt_of_le h (pow_mono {i = k} {j = n} l))

held : (a k n : ℕ) → a < 2 ^ k → a / 2 ^ min n k ≡ a / 2 ^ n
held a k n h = go (dec_le n k)
  where
    go : Dec (n ≤ k) → a / 2 ^ min n k ≡ a / 2 ^ n
    go (yes l) = ap (λ (k : ℕ). a / 2 ^ k) (min-eq_left l)
    go (no l) = ap (λ (k : ℕ). a / 2 ^ k) (min-eq_right {n = k} {m = n} (omega arith)) ∙ gone a k k h (omega arith) ∙ sym (gone a k n h (omega arith))

pub signed-right : (w : Width) (z : ℤ) (n : ℕ) → SFits w z → floor z (2 ^ min n (hbits w)) ≡ floor z (2 ^ n)
signed-right w (pos a) n f = ap pos (held a (hbits w) n f.sfits)
signed-right w (negsuc a) n f = ap negsuc (held a (hbits w) n f.sfits)
