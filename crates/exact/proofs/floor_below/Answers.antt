-- `exact::floor_below` meets its contract: 0 stays, and else down is one more in magnitude. Assumes nothing.
use Prim.Native.Nat.{ℕ, ◌+◌, ◌-◌, ◌^◌}
use native.Mathlib.Omega.{arith}
use Rattle.std.specs.Prelude.{ltb}
use mathlib.Core.Path.{◌≡◌, ◌∙◌, ap}
use Rattle.wide.specs.Meaning.{value_of}
use Rattle.exact.specs.Signs.{words-lt, none_below, some_below, floor-zero, floor-below, below-fits}
use Rattle.exact.proofs.floor_below.Goals as goal

-- the test for 0 is against a word that stands for 1
beside : (x : ℕ) {t one : _} → t ≡ ltb x one → one ≡ 1 → t ≡ ltb x 1
beside x e f = e ∙ ap (ltb x) f

pub returns-then-less : goal.returns-then-less
returns-then-less c =
    let x = value_of c.args.size in
    let none = none_below x (beside x c.less.ensures c.from-one.ensures) c.if-less.true in
    c.new.ensures ∙ floor-zero x (2 ^ c.args.k) none none

pub sub-requires : goal.sub-requires
sub-requires c =
    let x = value_of c.args.size in
    omega (arith, some_below x (beside x c.less.ensures c.from-one.ensures) c.if-less.false, c.from-one.ensures)

pub add-requires : goal.add-requires
add-requires c =
    let x = value_of c.args.size in
    let some = some_below x (beside x c.less.ensures c.from-one.ensures) c.if-less.false in
    let less = c.sub.ensures ∙ ap (λ (n : ℕ). x - n) c.from-one.ensures in
    omega (arith, c.from-one.ensures, below-fits (2 ^ c.args.k) some (words-lt (omega arith) (omega arith)) less c.shr-whole.ensures)

pub returns-else-less : goal.returns-else-less
returns-else-less c =
    let x = value_of c.args.size in
    let some = some_below x (beside x c.less.ensures c.from-one.ensures) c.if-less.false in
    let less = c.sub.ensures ∙ ap (λ (n : ℕ). x - n) c.from-one.ensures in
    let more = c.add.ensures ∙ ap (λ (n : ℕ). value_of c.shr-whole.result + n) c.from-one.ensures in
    c.new-else-less.ensures ∙ floor-below x (2 ^ c.args.k) some less c.shr-whole.ensures more
