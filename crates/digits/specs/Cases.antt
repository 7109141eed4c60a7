-- Runs and their views, read off the meaning by computation. Assumes nothing.
use Rattle.std.specs.Prelude.{◌≡◌, refl, Some, None}
use Prim.Native.String.{String}
use Rattle.laws.specs.Text.{bytes}
use Rattle.digits.specs.Meaning.{is_und, is_zero, digits_of, take_while, drop_while, take_back, drop_back, trimmed}
use Rattle.digits.specs.Meaning.{unds_front, unds_back, head_of, tail_of, upto_of, from_of, first_of, last_of}
use Rattle.digits.specs.Meaning.{leading_zeros, trailing_zeros, Part, new_part, upto_part, from_part, Slice, after}
use Rattle.digits.specs.Promise.{AfterFirst}

-- what stands before a view, the view, and what stands behind it
abbrev part : String → String → String → Part
part before view behind = record { before = bytes before; view = bytes view; behind = bytes behind }

parts :
    (new_part (bytes "__1_2__3_") ≡ part "__" "1_2__3" "_")
    × (new_part (bytes "___") ≡ part "___" "" "")
    × (upto_part (bytes "1_2__3") 2 ≡ part "" "1_2" "__3")
    × (from_part (bytes "1_2__3") 2 ≡ part "1_2__" "3" "")
    × (upto_part (bytes "1_2__3") 0 ≡ part "" "" "1_2__3")
    × (from_part (bytes "1_2__3") 0 ≡ part "" "1_2__3" "")
    × (upto_part (bytes "1_2__3") 9 ≡ part "" "1_2__3" "")
    × (from_part (bytes "1_2__3") 9 ≡ part "1_2__3" "" "")
    × (upto_part (bytes "11") 1 ≡ part "" "1" "1")
    × (from_part (bytes "11") 1 ≡ part "1" "1" "")
unfolding bytes is_und take_while drop_while take_back drop_back trimmed unds_front unds_back head_of tail_of upto_of from_of
parts = (refl, refl, refl, refl, refl, refl, refl, refl, refl, refl)

-- so `after_first` of `11` is the second `1`
second-one : (run r : Slice) → run.now ≡ bytes "11" → AfterFirst run r → r.ref_ptr ≡ after 1 run.ref_ptr
unfolding bytes is_und take_while drop_while unds_front head_of tail_of
second-one run r e p = rw e at p.place

digits :
    (digits_of (bytes "1_2__3") ≡ bytes "123")
    × (first_of (digits_of (bytes "1_2__3")) ≡ Some 49)
    × (last_of (digits_of (bytes "1_2__3")) ≡ Some 51)
    × (first_of (digits_of (bytes "__")) ≡ None)
    × (leading_zeros (digits_of (bytes "0_0_10")) ≡ 2)
    × (trailing_zeros (digits_of (bytes "0_0_10")) ≡ 1)
    × (trailing_zeros (digits_of (bytes "0_0")) ≡ 2)
unfolding bytes is_und is_zero digits_of take_while first_of last_of leading_zeros trailing_zeros
digits = (refl, refl, refl, refl, refl, refl, refl)
