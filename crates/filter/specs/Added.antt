-- The rounding as the code has it: half a step less one is added, and one more where the whole part is odd, and the sum is shifted down. It is the
-- rounded number, since that is the only one within half a step and even at a tie; and no step of it leaves the word. Assumes nothing.
use Rattle.std.specs.Prelude.{◌≡◌, ℕ, suc, ◌+◌, ◌*◌, ◌-◌, ◌/◌, ◌%◌, ◌^◌, ◌≤◌, ℤ, pos, negsuc, nat_abs, ◌+ℤ◌}
use Rattle.std.proofs.Common.{◌∙◌, arith, lit<, SFits, of_z}
use Rattle.std.specs.Int.Bits.{bit_and}
use Rattle.std.proofs.lemmas.Nat.{and_mask}
use Rattle.std.specs.Int.Signed.{shr_z, mag_shr}
use Rattle.std.specs.Int.{w64}
use mir.ValLaws.{sfits_le}
use Rattle.laws.specs.Bound.{abs-out}
use Rattle.laws.specs.Diff.{up, dn, add-out, orders}
use Rattle.laws.specs.Floor.{floor-out}
use Rattle.laws.specs.Signed.{signed}
use Rattle.filter.specs.Meaning.{most_taps}
use Rattle.filter.specs.Rounding.{Near}

module _ (p : ℤ) where
  abbrev whole : ℤ
  whole = shr_z p (2 ^ 15)

  abbrev pub odd : ℕ
  odd = nat_abs whole % 2

  abbrev pub raised : ℤ
  raised = p +ℤ pos 16383 +ℤ pos odd

  abbrev pub lowered : ℤ
  lowered = shr_z raised (2 ^ 15)

  raised-out : up raised + dn p ≡ up p + 16383 + odd + dn raised
  raised-out = omega (arith, add-out p (pos 16383), add-out (p +ℤ pos 16383) (pos odd))

  -- at a tie the whole part decides: it is even and stays, or it is odd and the next is even
  after-even : lowered ≡ whole → odd ≡ 0 → nat_abs lowered % 2 ≡ 0
  after-even e o = rw e o

  after-odd : up lowered + dn whole ≡ up whole + dn lowered + 1 → odd ≡ 1 → nat_abs lowered % 2 ≡ 0
  after-odd e o = go (nat_abs whole / 2) (omega (arith, abs-out whole))
    where
      go : (k : ℕ) → up whole + dn whole ≡ k * 2 + 1 → nat_abs lowered % 2 ≡ 0
      go k f = omega (arith, abs-out lowered)

  pub lowered-near : Near p lowered
  lowered-near =
      let f = floor-out raised (2 ^ 15) (lit< tt) in
      let g = floor-out p (2 ^ 15) (lit< tt) in
      record {
        below = omega (arith, raised-out);
        above = omega (arith, raised-out);
        tie-below = λ t. after-even (omega (orders, raised-out)) (omega (arith, raised-out));
        tie-above = λ t. after-odd (omega (arith, raised-out)) (omega (arith, raised-out));
      }

-- in the machine: whether a number is odd is its last bit, and neither sum leaves the word
odd-bit : (z : ℤ) → SFits w64 z → bit_and (of_z w64 z) 1 ≡ nat_abs z % 2
odd-bit (pos n) f = and_mask n 1
odd-bit (negsuc n) f = and_mask (2 ^ 64 - suc n) 1 ∙ omega (arith, f.sfits)

module _ (p : ℤ) (h : nat_abs p ≤ most_taps * 2 ^ 30) where
  pub whole-odd : bit_and (of_z w64 (whole p)) 1 ≡ odd p
  whole-odd = odd-bit (whole p) (omega (signed, abs-out p, floor-out p (2 ^ 15) (lit< tt)))

  pub half-fits : SFits w64 (p +ℤ pos 16383)
  half-fits = omega (signed, abs-out p, add-out p (pos 16383))

  pub raised-fits : SFits w64 (raised p)
  raised-fits = omega (signed, abs-out p, add-out p (pos 16383), add-out (p +ℤ pos 16383) (pos (odd p)))

  pub lowered-fits : SFits w64 (lowered p)
  lowered-fits = sfits_le (mag_shr (raised p) (2 ^ 15)) raised-fits
