-- `sum::dot` meets its contract. The loop's invariant: the sum so far and what is left to sum are the whole sum, and the sum so far is at most
-- 2 ^ 30 for each product in it. Assumes nothing.
use mathlib.Core.Path.{◌≡◌, ◌∙◌}
use mathlib.Core.List.{List}
use Prim.Native.Nat.{ℕ, ◌+◌, ◌*◌, ◌^◌, ◌≤◌}
use native.Mathlib.Omega.{arith}
use lib.IntN.{ℤ, pos, nat_abs, ◌+ℤ◌, ◌*ℤ◌, +ℤ_idl, +ℤ_idr, +ℤ_assoc}
use lib.ListN.{length, get_or}
use mir.Syntax.{w16, w64}
use mir.Val.{SFits, to_z, of_z}
use mir.Facts.{to_z-of_z}
use Rattle.laws.specs.Bound.{abs-add-le, abs-sfits, sfits-mul}
use Rattle.laws.specs.Signed.{ok-back}
use Rattle.filter.specs.Meaning.{sum_of}
use Rattle.filter.specs.Sum.{sum_step, sum-end}
use Rattle.filter.proofs.sum.dot.Goals as goal
use Rattle.filter.proofs.sum.dot.Goals.{After-product-sum as Turn}

-- the turn's state, by short names
abbrev taps : Turn → List ℤ
taps c = c.args.taps.now

abbrev line : Turn → List ℤ
line c = c.args.line.now

abbrev at : Turn → ℕ
at c = c.loop-i.i

abbrev so_far : Turn → ℤ
so_far c = to_z w64 c.loop-i.sum-bits

abbrev term : Turn → ℤ
term c = get_or (taps c) (at c) (pos 0) *ℤ get_or (line c) (at c) (pos 0)

tap-fits : (c : Turn) → SFits w16 (get_or (taps c) (at c) (pos 0))
tap-fits c = record { sfits = omega arith }

sample-fits : (c : Turn) → SFits w16 (get_or (line c) (at c) (pos 0))
sample-fits c = record { sfits = omega arith }

result-is : (c : Turn) → c.product-sum.result ≡ term c
result-is c = rw (to_z-of_z {w = w16} (tap-fits c), to_z-of_z {w = w16} (sample-fits c)) at c.product-sum.ensures

-- what the machine reads back of the product is the product
back : (c : Turn) → to_z w64 (of_z w64 c.product-sum.result) ≡ term c
back c = ok-back w64 c.product-sum.result c.product-sum.type_inv ∙ result-is c

bound : (c : Turn) → nat_abs (so_far c +ℤ term c) ≤ (at c + 1) * 2 ^ 30
bound c =
    let h : nat_abs (term c) ≤ 2 ^ 30 = sfits-mul (tap-fits c) (sample-fits c) in
    omega (arith, abs-add-le (so_far c) (term c) c.loop-i.invariant.1.0 h)

fits : (c : Turn) → SFits w64 (so_far c +ℤ term c)
fits c = abs-sfits w64 (so_far c +ℤ term c) (omega (arith, bound c))

pub loop-i-init : goal.loop-i-init
loop-i-init c = (omega arith, (omega arith, +ℤ_idl (sum_of c.args.taps.now c.args.line.now)))

pub overflow_add-sum : goal.overflow_add-sum
overflow_add-sum c = rw (back c) (fits c)

pub loop-i-preserved : goal.loop-i-preserved
loop-i-preserved c =
    let step = sum_step (taps c) (line c) (at c) (omega arith) (omega arith) in (
      omega arith,
      (
        rw (back c, to_z-of_z {w = w64} (fits c)) (bound c),
        rw (back c, to_z-of_z {w = w64} (fits c), +ℤ_assoc, ← step) c.loop-i.invariant.1.1,
      ),
    )

pub returns : goal.returns
returns c =
    let end : c.loop-i.i ≡ length c.args.taps.now = omega arith in
    let inv = c.loop-i.invariant in
    record { value = rw (end, sum-end, +ℤ_idr) at inv.1.1; bound = omega (arith, inv.1.0) }
