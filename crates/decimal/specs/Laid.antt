-- The text that a layout holds. Assumes nothing.
use Rattle.std.specs.Prelude.{List, [], ◌∷◌, cond, ℕ, ◌-◌, eqb, take, drop}
use Rattle.decimal.specs.declared.layout.Layout.{Layout}

unfoldable pub laid : Layout → List ℕ
laid l = take (l.end - l.start) (drop l.start l.places.now)

-- a byte at the end, where a zero is dropped
unfoldable pub unless_zero : ℕ → List ℕ
unless_zero b = cond (eqb b 48) [] (b ∷ [])
