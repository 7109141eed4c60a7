-- Document 01's headroom cases, in its order, of the promised outcome itself: the taps, the verdict, and what a witness buffer of zeros holds after the call.
-- Then the refusals, and cases of the signs. Assumes nothing.
use Rattle.std.specs.Prelude.{◌≡◌, refl, Err, true, false, List, [], ◌∷◌, ℕ, ◌+◌, ◌-◌, ◌^◌, ℤ, pos, negsuc, length, replicate}
use Rattle.std.specs.Int.Signed.{lt_z}
use Rattle.laws.specs.Nearest.{nearest_even, nearest_by}
use Rattle.format.specs.Meaning.{lowest, highest, named, guarded, with_sign}
use Rattle.filter.specs.Meaning.{most_taps, sum_of, rounded, level_of, taps_fault, done_with}
use Rattle.headroom.specs.declared.peak.Way.TheVariants.{High, Low}
use Rattle.headroom.specs.Meaning.{by_sign, driven_of, driving, passes, clips_way, verdict_of, witness_of, head_fault, headed, headroom_of}

-- -32768, and a list of zeros
abbrev low : ℤ
low = negsuc 32767

abbrev zeros : ℕ → List ℤ
zeros n = replicate n (pos 0)

abbrev Headroom : List ℤ → ℕ → List ℤ → Type 0
Headroom taps verdict witness = headroom_of taps (zeros (length taps)) ≡ headed (done_with verdict false) witness

abbrev Refusal : List ℤ → ℕ → ℕ → Type 0
Refusal taps places number = headroom_of taps (zeros places) ≡ headed (Err (named number)) (zeros places)

pub headroom-cases :
    Headroom (pos 32767 ∷ []) 0 (zeros 1)
    × (Headroom (low ∷ []) 1 (low ∷ [])
    × (Headroom (pos 32767 ∷ pos 1 ∷ []) 0 (zeros 2)
    × (Headroom (pos 32767 ∷ pos 2 ∷ []) 1 (pos 32767 ∷ pos 32767 ∷ [])
    × ((sum_of (pos 32767 ∷ pos 2 ∷ []) (driving High (pos 32767 ∷ pos 2 ∷ [])) ≡ pos (2 ^ 30 - 1))
    × (lt_z (sum_of (pos 32767 ∷ pos 2 ∷ []) (driving Low (pos 32767 ∷ pos 2 ∷ []))) (negsuc (2 ^ 30 - 1)) ≡ true)))))
unfolding headroom_of guarded head_fault taps_fault verdict_of witness_of clips_way level_of sum_of rounded with_sign nearest_even nearest_by driven_of by_sign passes lowest highest
headroom-cases = (refl, (refl, (refl, (refl, (refl, refl)))))

-- no taps; one too many; a place too few, which goes first
pub refusal-cases :
    Refusal [] 0 40
    × (Refusal (zeros (most_taps + 1)) (most_taps + 1) 40
    × (Refusal (pos 1 ∷ []) 2 5
    × Refusal [] 1 5))
unfolding headroom_of guarded head_fault taps_fault named
refusal-cases = (refl, (refl, (refl, refl)))

-- a zero tap has the sample 0; signs matter: 16384 and -16384 reach 1073725440, 32767.5 steps, which is 32768 when rounded; 16385 and -16383, whose
-- magnitudes add up to the same, reach one less
pub sign-cases :
    Headroom (low ∷ pos 0 ∷ low ∷ []) 1 (low ∷ pos 0 ∷ low ∷ [])
    × (Headroom (pos 32767 ∷ negsuc 32766 ∷ []) 1 (pos 32767 ∷ low ∷ [])
    × (Headroom (pos 16384 ∷ negsuc 16383 ∷ []) 1 (pos 32767 ∷ low ∷ [])
    × ((sum_of (pos 16384 ∷ negsuc 16383 ∷ []) (pos 32767 ∷ low ∷ []) ≡ pos 1073725440)
    × Headroom (pos 16385 ∷ negsuc 16382 ∷ []) 0 (zeros 2))))
unfolding headroom_of guarded head_fault taps_fault verdict_of witness_of clips_way level_of sum_of rounded with_sign nearest_even nearest_by driven_of by_sign passes lowest highest
sign-cases = (refl, (refl, (refl, (refl, refl))))
