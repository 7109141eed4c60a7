-- What is proved of the second layer: an exponent moves the point and nothing else, and how many digits there can be. Assumes nothing.
use Rattle.std.specs.Prelude.{◌≡◌, List, ◌++◌, reverse, ℕ, suc, ◌+◌, ◌≤◌, length, take, drop, ℤ, pos, negsuc, nat_abs}
use Rattle.std.proofs.Common.{sym, ap, ◌∙◌, append_assoc, append-nil, arith, length-append, length-take, take-append-drop}
use Rattle.laws.specs.Text.{zeros}
use Rattle.digits.specs.Meaning.{is_zero, drop_while, drop_back, StartsWithNo}
use Rattle.digits.specs.Runs.{while-length, back-length}
use Rattle.digits.specs.Theorems.{drop-starts, back-starts}
use Rattle.digits_exp.specs.Meaning.{right_int, right_frac, left_int, left_frac, moved_int, moved_frac}
use Rattle.digits_exp.specs.Zeros.{zeros-length}

-- ---- an exponent moves the point, and nothing else. The digits are those of integer and fraction with the zeros that pad them ..
pub right-whole : (n : ℕ) (i f : List ℕ) → moved_int (pos n) i f ++ moved_frac (pos n) i f ≡ i ++ (f ++ zeros n)
unfolding moved_int moved_frac right_int right_frac
right-whole n i f =
    append_assoc i (take n (f ++ zeros n)) (drop n (f ++ zeros n)) ∙ ap (λ (l : List ℕ). i ++ l) (take-append-drop n (f ++ zeros n))

pub left-whole : (m : ℕ) (i f : List ℕ) → moved_int (negsuc m) i f ++ moved_frac (negsuc m) i f ≡ (zeros (suc m) ++ i) ++ f
unfolding moved_int moved_frac left_int left_frac
left-whole m i f =
    let l = zeros (suc m) ++ i in
    sym (append_assoc (take (length i) l) (drop (length i) l) f) ∙ ap (λ (k : List ℕ). k ++ f) (take-append-drop (length i) l)

-- .. and the point, which stood behind the integer, has gone n places to the right, or m + 1 places to the left
pub right-point : (n : ℕ) (i f : List ℕ) → length (moved_int (pos n) i f) ≡ length i + n
unfolding moved_int right_int
right-point n i f =
    omega (
      arith,
      length-append i (take n (f ++ zeros n)),
      length-take n (f ++ zeros n),
      length-append f (zeros n),
      zeros-length n,
    )

pub left-point : (m : ℕ) (i f : List ℕ) → length (moved_int (negsuc m) i f) + suc m ≡ length (zeros (suc m) ++ i)
unfolding moved_int left_int
left-point m i f =
    omega (
      arith,
      length-take (length i) (zeros (suc m) ++ i),
      length-append (zeros (suc m)) i,
      zeros-length (suc m),
    )

-- no exponent, no move
pub unmoved : (i f : List ℕ) → (moved_int (pos 0) i f ≡ i) × (moved_frac (pos 0) i f ≡ f)
unfolding moved_int moved_frac right_int right_frac
unmoved i f = (append-nil i, append-nil f)

-- so the digits can be counted: an integer has no more than its own and the exponent's, and so a fraction
pub int-length : (e : ℤ) (i f : List ℕ) → length (drop_while is_zero (moved_int e i f)) ≤ length i + nat_abs e
int-length (pos n) i f = omega (arith, while-length is_zero (moved_int (pos n) i f), right-point n i f)
int-length (negsuc m) i f =
    omega (
      arith,
      while-length is_zero (moved_int (negsuc m) i f),
      left-point m i f,
      length-append (zeros (suc m)) i,
      zeros-length (suc m),
    )

pub frac-length : (e : ℤ) (i f : List ℕ) → length (drop_back is_zero (moved_frac e i f)) ≤ length f + nat_abs e
frac-length (pos n) i f =
    omega (
      arith,
      back-length is_zero (moved_frac (pos n) i f),
      right-point n i f,
      ap length (right-whole n i f),
      length-append (moved_int (pos n) i f) (moved_frac (pos n) i f),
      length-append i (f ++ zeros n),
      length-append f (zeros n),
      zeros-length n,
    )
frac-length (negsuc m) i f =
    omega (
      arith,
      back-length is_zero (moved_frac (negsuc m) i f),
      left-point m i f,
      ap length (left-whole m i f),
      length-append (moved_int (negsuc m) i f) (moved_frac (negsuc m) i f),
      length-append (zeros (suc m) ++ i) f,
    )

-- and neither has a zero at its outer end
pub int-front : (e : ℤ) (i f : List ℕ) → StartsWithNo is_zero (drop_while is_zero (moved_int e i f))
int-front e i f = drop-starts is_zero (moved_int e i f)

pub frac-back : (e : ℤ) (i f : List ℕ) → StartsWithNo is_zero (reverse (drop_back is_zero (moved_frac e i f)))
frac-back e i f = back-starts is_zero (moved_frac e i f)
