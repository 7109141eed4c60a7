-- The arrays before anything is found in them. Assumes nothing.
use Rattle.std.specs.Prelude.{List, ℕ, ℤ, pos, replicate}
use Rattle.filter.specs.Meaning.{most_taps}

abbrev pub zero-places : List ℕ
zero-places = replicate most_taps 0

abbrev pub signed-zeros : List ℤ
signed-zeros = replicate most_taps (pos 0)
