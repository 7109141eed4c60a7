-- Where the point of a decimal number stands once the exponent has moved it: all digits whole and zeros after them, some whole and some after the
-- point, or zeros between the point and the digits. Assumes nothing.
use Rattle.std.specs.Prelude.{◌≡◌, Bool, true, false, List, ℕ, ◌+◌, ◌-◌, ◌*◌, ◌^◌, ◌≤◌, ◌<◌, length, take, drop}
use Rattle.std.proofs.Common.{sym, ◌∙◌, arith, length-drop, take-append-drop}
use Rattle.std.proofs.Math.Path.{ap}
use Rattle.std.proofs.Math.Nat.{one-le-pow}
use Rattle.std.proofs.Math.Pow.{pow-add}
use Rattle.laws.specs.Nearest.{nearest_even, nearest-same, nearest-exact}
use Rattle.grammar.specs.Meaning.{Written, num, den, raw_of}
use Rattle.grammar.specs.Naturals.{nat_of, nat_of-append}

-- a decimal number: its exponent scales by ten
abbrev pub decimal : List ℕ → ℕ → Bool → ℕ → Written
decimal ds after down e = record { neg = false; digits = ds; after = after; base = 10; down = down; exp = e }

power : (n : ℕ) → 0 < 10 ^ n
power n = one-le-pow n 10 (omega arith)

module _ (f : ℕ) (ds : List ℕ) (after e : ℕ) where
  pub point-past : after ≤ e → raw_of 10 f (decimal ds after false e) ≡ nat_of 10 ds * 10 ^ (e - after) * 2 ^ f
  unfolding raw_of num den
  point-past h =
      let split : 10 ^ e ≡ 10 ^ (e - after) * 10 ^ after = ap (λ (i : ℕ). 10 ^ i) (omega arith) ∙ pow-add 10 (e - after) after in
      let n = nat_of 10 ds in
      nearest-same (n * 10 ^ e * 2 ^ f) (10 ^ after * 1) (n * 10 ^ (e - after) * 2 ^ f * 1) 1 (omega (arith, power after)) (omega arith)
      (omega (arith, ap (λ (y : ℕ). n * y * 2 ^ f) split))
      ∙ nearest-exact (n * 10 ^ (e - after) * 2 ^ f) 1 (omega arith)

  pub point-up : e ≤ after → raw_of 10 f (decimal ds after false e) ≡ nearest_even (nat_of 10 ds * 2 ^ f) (10 ^ (after - e))
  unfolding raw_of num den
  point-up h =
      let split : 10 ^ after ≡ 10 ^ (after - e) * 10 ^ e = ap (λ (i : ℕ). 10 ^ i) (omega arith) ∙ pow-add 10 (after - e) e in
      let n = nat_of 10 ds in
      nearest-same (n * 10 ^ e * 2 ^ f) (10 ^ after * 1) (n * 2 ^ f) (10 ^ (after - e)) (omega (arith, power after)) (power (after - e))
      (omega (arith, ap (λ (y : ℕ). n * 2 ^ f * y) split))

  pub point-down : raw_of 10 f (decimal ds after true e) ≡ nearest_even (nat_of 10 ds * 2 ^ f) (10 ^ (after + e))
  unfolding raw_of num den
  point-down =
      let n = nat_of 10 ds in
      nearest-same (n * 1 * 2 ^ f) (10 ^ after * 10 ^ e) (n * 2 ^ f) (10 ^ (after + e)) (rw (← pow-add) (power (after + e))) (power (after + e))
      (omega (arith, ap (λ (y : ℕ). n * 2 ^ f * y) (pow-add 10 after e)))

-- the last p digits after the point
pub point-split : (ds : List ℕ) (p : ℕ) → p ≤ length ds
    → nat_of 10 ds ≡ nat_of 10 (take (length ds - p) ds) * 10 ^ length (drop (length ds - p) ds) + nat_of 10 (drop (length ds - p) ds)
point-split ds p h = ap (nat_of 10) (sym (take-append-drop (length ds - p) ds)) ∙ nat_of-append 10 (take (length ds - p) ds) (drop (length ds - p) ds)

pub point-length : (ds : List ℕ) (p : ℕ) → p ≤ length ds → length (drop (length ds - p) ds) ≡ p
point-length ds p h = rw length-drop (omega arith)
