-- Numbers whose point an exponent moves, read off the meaning by computation. Assumes nothing.
use Rattle.std.specs.Prelude.{◌≡◌, refl, List, ℕ, ℤ, pos, negsuc}
use Prim.Native.String.{String}
use Rattle.laws.specs.Text.{bytes}
use Rattle.digits.specs.Meaning.{is_zero, take_while, drop_while, drop_back}
use Rattle.digits_exp.specs.Meaning.{right_int, right_frac, left_int, left_frac, moved_int, moved_frac}

-- the digits of integer and fraction: `0012.3450` with no exponent, e2, e5, e-1, e-4, and zeros alone
int : ℤ → String → String → List ℕ
int e i f = drop_while is_zero (moved_int e (bytes i) (bytes f))

frac : ℤ → String → String → List ℕ
frac e i f = drop_back is_zero (moved_frac e (bytes i) (bytes f))

moves :
    (int (pos 0) "0012" "3450" ≡ bytes "12")
    × (frac (pos 0) "0012" "3450" ≡ bytes "345")
    × (int (pos 2) "0012" "3450" ≡ bytes "1234")
    × (frac (pos 2) "0012" "3450" ≡ bytes "5")
    × (int (pos 5) "0012" "3450" ≡ bytes "1234500")
    × (frac (pos 5) "0012" "3450" ≡ bytes "")
    × (int (negsuc 0) "0012" "3450" ≡ bytes "1")
    × (frac (negsuc 0) "0012" "3450" ≡ bytes "2345")
    × (int (negsuc 3) "12" "3450" ≡ bytes "")
    × (frac (negsuc 3) "12" "3450" ≡ bytes "0012345")
    × (int (pos 3) "00" "00" ≡ bytes "")
    × (frac (negsuc 3) "00" "00" ≡ bytes "")
unfolding int frac bytes is_zero take_while drop_while drop_back right_int right_frac left_int left_frac moved_int moved_frac
moves = (refl, refl, refl, refl, refl, refl, refl, refl, refl, refl, refl, refl)
