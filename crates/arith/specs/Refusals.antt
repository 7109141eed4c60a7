-- The refusal of a divisor: one law for each way out, and what is known where there is none. Assumes nothing.
use Rattle.std.specs.Prelude.{◌≡◌, refl, Bool, true, false, cond, ℕ, ◌<◌, eqb, ℤ, nat_abs}
use Rattle.std.proofs.Common.{arith, ne_eqb}
use Rattle.std.proofs.lemmas.Bool.{eqb-false}
use Rattle.arith.specs.Meaning.{divisor_fault}

pub divisor-zero : (b : ℤ) → nat_abs b ≡ 0 → 31 ≡ divisor_fault b
unfolding divisor_fault
divisor-zero b e = rw e

pub divisor-some : (b : ℤ) → (nat_abs b ≡ 0 → ⊥) → 0 ≡ divisor_fault b
unfolding divisor_fault
divisor-some b h = rw (ne_eqb (nat_abs b) 0 h)

pub divisor-none : (b : ℤ) → divisor_fault b ≡ 0 → 0 < nat_abs b
unfolding divisor_fault
divisor-none b h = go (eqb (nat_abs b) 0) refl h
  where
    go : (t : Bool) → eqb (nat_abs b) 0 ≡ t → ◌≡◌ {A = ℕ} (cond t 31 0) 0 → 0 < nat_abs b
    go true e h = absurd (omega arith)
    go false e h = omega (arith, eqb-false (nat_abs b) 0 e)
