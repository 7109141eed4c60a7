-- A text as the list of its bytes, so that a case reads as the document writes it: `bytes "7.96875"`; and some digits `0`.
-- Assumes nothing.
use Rattle.std.specs.Prelude.{List, [] as nil, ◌∷◌ as cons, ℕ, replicate}
use Prim.Native.Char.{code}
use Prim.Native.String.{String, [], ◌∷◌}

unfoldable pub bytes : String → List ℕ
bytes [] = nil
bytes (c ∷ s) = cons (code c) (bytes s)

-- n digits `0`
abbrev pub zeros : ℕ → List ℕ
zeros n = replicate n 48
