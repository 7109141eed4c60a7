-- Small files, cut into lines by the meaning. `\n` is LF. Assumes nothing.
use Rattle.std.specs.Prelude.{◌≡◌, refl, [], ◌∷◌}
use Rattle.laws.specs.Text.{bytes}
use Rattle.value_lines.specs.Meaning.{onto, lines_of}

-- how lines are cut
pub line-cases :
    (lines_of (bytes "") ≡ [])
    × ((lines_of (bytes "a") ≡ bytes "a" ∷ [])
    × ((lines_of (bytes "a\n") ≡ bytes "a" ∷ [])
    × ((lines_of (bytes "a\n\nb") ≡ bytes "a" ∷ [] ∷ bytes "b" ∷ [])
    × (lines_of (bytes "\n") ≡ [] ∷ []))))
unfolding lines_of onto bytes
line-cases = (refl, (refl, (refl, (refl, refl))))
