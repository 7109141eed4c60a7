-- `units::frac` meets its contract: the number itself without integer bits, and else what is left above the floor. Assumes nothing.
use Rattle.std.proofs.Common.{◌∙◌, arith, ℕ, ◌*◌, ◌%◌, ◌^◌, ◌≡◌, ◌<◌, ◌≤◌, pow_pos, shl_exact}
use native.Mathlib.Nat.{one-mul}
use Rattle.units.specs.Units.{frac-none, frac-some}
use Rattle.units.proofs.frac.Goals as goal

-- with integer bits one is a word
word : {w f : ℕ} → (f ≤ w) × (w ≤ 64) → (f ≡ w → ⊥) → f < 64
word h e = omega (arith, h)

one : {f : ℕ} → f < 64 → 1 * 2 ^ f % 2 ^ 64 ≡ 2 ^ f
one {f} h = shl_exact {a = 1} 1 f 64 (omega arith) (omega arith) ∙ one-mul (2 ^ f)

pub overflow_shl-frac : goal.overflow_shl-frac
overflow_shl-frac c = word c.requires c.if-frac-width.false

pub modulo-requires : goal.modulo-requires
modulo-requires c = omega (arith, one (word c.requires c.if-frac-width.false), pow_pos c.args.frac)

pub returns-then-frac-width : goal.returns-then-frac-width
returns-then-frac-width c = frac-none _ _ _ c.if-frac-width.true c.into.ensures

pub returns-else-frac-width : goal.returns-else-frac-width
returns-else-frac-width c =
    frac-some _ _ _ c.if-frac-width.false (one (word c.requires c.if-frac-width.false))
    (c.into-else-frac-width.ensures ∙ c.of.ensures ∙ c.modulo.ensures)
