-- Outputs by which wrong filters are told. Assumes nothing.
use Rattle.std.specs.Prelude.{◌≡◌, refl, Bool, true, false, List, [], ◌∷◌, ℤ, pos, negsuc, replicate}
use Rattle.laws.specs.Nearest.{nearest_even, nearest_by}
use Rattle.format.specs.Meaning.{lowest, highest, fits, hold, with_sign}
use Rattle.filter.specs.Meaning.{sum_of, rounded, held, clips, level_of, output_of, clip_of}

abbrev Output : List ℤ → List ℤ → ℤ → Bool → Type 0
Output taps samples output clip = (output_of taps samples ≡ output) × (clip_of taps samples ≡ clip)

-- -1 / 2^15 is 0, which toward minus infinity it is not; half steps go to the even output, on both sides of 0: 0.5, 1.5, 2.5
pub rounding-cases :
    Output (pos 1 ∷ []) (negsuc 0 ∷ []) (pos 0) false
    × (Output (pos 16384 ∷ []) (pos 1 ∷ []) (pos 0) false
    × (Output (pos 16384 ∷ []) (negsuc 0 ∷ []) (pos 0) false
    × (Output (pos 16384 ∷ []) (pos 3 ∷ []) (pos 2) false
    × (Output (pos 16384 ∷ []) (negsuc 2 ∷ []) (negsuc 1) false
    × (Output (pos 16384 ∷ []) (pos 5 ∷ []) (pos 2) false
    × Output (pos 16384 ∷ []) (negsuc 4 ∷ []) (negsuc 1) false)))))
unfolding output_of clip_of level_of sum_of rounded with_sign nearest_even nearest_by held clips hold fits lowest highest
rounding-cases = ((refl, refl), ((refl, refl), ((refl, refl), ((refl, refl), ((refl, refl), ((refl, refl), (refl, refl)))))))

-- The sum is rounded before it is held: 32767.5 steps are 32768 and clip, -32768.5 are -32768 and do not, one more in the sum does. And it is
-- held once, at the end: 32767 x 32767 twice, and once less.
pub holding-cases :
    Output (pos 16384 ∷ negsuc 16383 ∷ []) (pos 32767 ∷ negsuc 32767 ∷ []) (pos 32767) true
    × (Output (negsuc 32767 ∷ pos 16384 ∷ []) (pos 32767 ∷ negsuc 2 ∷ []) (negsuc 32767) false
    × (Output (negsuc 32767 ∷ pos 16385 ∷ []) (pos 32767 ∷ negsuc 2 ∷ []) (negsuc 32767) true
    × Output (pos 32767 ∷ pos 32767 ∷ negsuc 32766 ∷ []) (replicate 3 (pos 32767)) (pos 32766) false))
unfolding output_of clip_of level_of sum_of rounded with_sign nearest_even nearest_by held clips hold fits lowest highest
holding-cases = ((refl, refl), ((refl, refl), ((refl, refl), (refl, refl))))
