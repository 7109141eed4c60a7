-- `exact::floor` meets its contract, by the sign. Assumes nothing.
use mathlib.Core.Path.{◌∙◌, ap}
use mathlib.Core.Bool.{true}
use Prim.Native.Nat.{ℕ, ◌+◌, ◌*◌, ◌/◌, ◌^◌}
use Rattle.laws.specs.Floor.{floor}
use Rattle.format.specs.Meaning.{with_sign}
use Rattle.exact.specs.Signs.{floor-above, floor-turned}
use Rattle.exact.proofs.floor.Goals as goal

pub returns-then-x : goal.returns-then-x
returns-then-x c =
    let a = c.args in
    floor-turned _ _ c.if-x.true (c.floor_below.ensures ∙ ap (λ (n : ℕ). floor (with_sign true n) (2 ^ a.k)) c.size.ensures)

pub returns-else-x : goal.returns-else-x
returns-else-x c =
    let a = c.args in
    c.new.ensures ∙ floor-above (a.x.high * 2 ^ 64 + a.x.low) (2 ^ a.k) c.if-x.false (c.shr.ensures ∙ ap (λ (n : ℕ). n / 2 ^ a.k) c.size-else-x.ensures)
