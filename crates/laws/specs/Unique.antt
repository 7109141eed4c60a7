-- What equals one thing equals each other: the `unique` of every promise that is an equation. Assumes nothing.
use Rattle.std.specs.Prelude.{◌≡◌}
use Rattle.std.proofs.Common.{sym, ◌∙◌}

pub unique : {A : Type 0} {x y z : A} → x ≡ z → y ≡ z → x ≡ y
unique p q = p ∙ sym q
