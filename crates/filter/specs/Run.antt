-- The laws of a run: a block may be cut anywhere, and what the pieces give in turn is what the whole gives. Assumes nothing.
use Rattle.std.specs.Prelude.{◌≡◌, refl, Bool, true, false, ℕ, zero, suc, ◌+◌, ◌≤◌, ℤ, length, take}
use Rattle.std.proofs.Common.{sym, ◌∙◌, arith, length-take, take-take, take_all}
use mathlib.Core.List.{List, [], ◌∷◌, ◌++◌, append_assoc, reverse, reverse-cons}
use Rattle.filter.specs.Meaning.{most_taps, next, output_of, clip_of, history_after, outputs_of, clips_of, bit_of, clipped}

pub after-append : (h xs ys : List ℤ) → history_after h (xs ++ ys) ≡ history_after (history_after h xs) ys
unfolding history_after
after-append h [] ys = refl
after-append h (x ∷ xs) ys = after-append (next h x) xs ys

pub outputs-append : (taps h xs ys : List ℤ) → outputs_of taps h (xs ++ ys) ≡ outputs_of taps h xs ++ outputs_of taps (history_after h xs) ys
unfolding history_after outputs_of
outputs-append taps h [] ys = refl
outputs-append taps h (x ∷ xs) ys = rw (outputs-append taps (next h x) xs ys)

pub clips-append : (taps h xs ys : List ℤ) → clips_of taps h (xs ++ ys) ≡ clips_of taps h xs ++ clips_of taps (history_after h xs) ys
unfolding history_after clips_of
clips-append taps h [] ys = refl
clips-append taps h (x ∷ xs) ys = rw (clips-append taps (next h x) xs ys)

pub clipped-append : (us vs : List Bool) → clipped (us ++ vs) ≡ clipped us + clipped vs
unfolding clipped
clipped-append [] vs = omega arith
clipped-append (u ∷ us) vs = omega (arith, clipped-append us vs)

pub clipped-one : (us : List Bool) (b : Bool) → clipped (us ++ b ∷ []) ≡ clipped us + bit_of b
unfolding clipped
clipped-one us b = omega (arith, clipped-append us (b ∷ []))

-- one sample more
pub after_one : (h xs : List ℤ) (x : ℤ) → history_after h (xs ++ x ∷ []) ≡ next (history_after h xs) x
unfolding history_after
after_one h xs x = after-append h xs (x ∷ [])

pub outputs-one : (taps h xs : List ℤ) (x : ℤ) → outputs_of taps h (xs ++ x ∷ []) ≡ outputs_of taps h xs ++ output_of taps (next (history_after h xs) x) ∷ []
unfolding outputs_of
outputs-one taps h xs x = outputs-append taps h xs (x ∷ [])

pub clips-one : (taps h xs : List ℤ) (x : ℤ) → clips_of taps h (xs ++ x ∷ []) ≡ clips_of taps h xs ++ clip_of taps (next (history_after h xs) x) ∷ []
unfolding clips_of
clips-one taps h xs x = clips-append taps h xs (x ∷ [])

-- a byte of a flag is at most 1; the state keeps its length
pub bit_le : (b : Bool) → bit_of b ≤ 1
unfolding bit_of
bit_le true = omega arith
bit_le false = omega arith

pub next-length : (h : List ℤ) (x : ℤ) → length h ≡ most_taps → length (next h x) ≡ most_taps
unfolding next
next-length h x e = simp length-take (omega arith)

-- the history after a block: the new samples, newest first, before the old ones, and of these the last 64
pub take_inner : (n m : ℕ) (xs ys : List ℤ) → n ≤ m → take n (xs ++ take m ys) ≡ take n (xs ++ ys)
take_inner n m [] ys h = take-take n m ys h
take_inner zero m (x ∷ xs) ys h = refl
take_inner (suc n) m (x ∷ xs) ys h = rw (take_inner n m xs ys (omega arith))

next-few : (h : List ℤ) (x : ℤ) → length (next h x) ≤ most_taps
unfolding next
next-few h x = simp length-take (omega arith)

pub after_is : (h xs : List ℤ) → length h ≤ most_taps → history_after h xs ≡ take most_taps (reverse xs ++ h)
unfolding history_after next
after_is h [] e = sym (take_all most_taps h e)
after_is h (x ∷ xs) e =
    after_is (next h x) xs (next-few h x)
    ∙ take_inner most_taps most_taps (reverse xs) (x ∷ h) (omega arith)
    ∙ rw (reverse-cons, append_assoc)
