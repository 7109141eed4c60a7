-- The scan as an automaton, for the proofs: a part of the number, what was read of it, and the number so far; a step for each byte. Agrees.antt shows that
-- it reads what the meaning reads. Assumes nothing.
use Rattle.std.specs.Prelude.{Bool, false, cond, List, [], ◌∷◌, ℕ, ◌+◌, ◌*◌, leb, ltb, eqb, length}
use Rattle.format.specs.declared.Manner.{Manner}
use Rattle.format.specs.Meaning.{Sign, Outcome, refused, settle, with_sign}
use Rattle.grammar.specs.Meaning.{digit_of, is_sign, is_bit_mark, is_mark, Written, Reading, number, unread, exp_limit, blank}
use Rattle.grammar.specs.Meaning.{with_digit, with_base, with_exp, literal_minus, literal_body, after_prefix, literal_radix, raw_of}

abbrev pub is_digit : ℕ → ℕ → Bool
is_digit radix b = ltb (digit_of b) radix

-- what a mark scales by
abbrev pub base_of : ℕ → ℕ → ℕ
base_of radix b = cond (is_bit_mark b) 2 radix

-- Where the scan stands: in which part of the number, and what was read of that part.
pub data NumberPart : Type 0 where
  whole fraction exponent : NumberPart

pub data Seen : Type 0 where
  nothing sign digit : Seen

pub data Scan : Type 0 where
  at : NumberPart → Seen → Written → Scan
  refuse : ℕ → Scan

pub data Sep : Type 0 where
  Skip Error : Sep

-- a sign stands first in the number, or first in the exponent; elsewhere it is misplaced (12)
unfoldable pub on_sign : Bool → NumberPart → Seen → Written → Scan
on_sign minus whole nothing x = at whole sign (blank minus)
on_sign minus whole sign x = refuse 12
on_sign minus whole digit x = refuse 12
on_sign minus fraction q x = refuse 12
on_sign minus exponent nothing x = at exponent sign (with_exp x minus x.exp)
on_sign minus exponent sign x = refuse 12
on_sign minus exponent digit x = refuse 12

-- at most one point (15), and none in the exponent (16)
unfoldable pub on_point : NumberPart → Written → Scan
on_point whole x = at fraction nothing x
on_point fraction x = refuse 15
on_point exponent x = refuse 16

-- a byte that is no digit of its part
abbrev pub invalid : NumberPart → Scan
invalid whole = refuse 13
invalid fraction = refuse 13
invalid exponent = refuse 16

-- the plain reader has no `_`; the literal reader skips it once a digit of the part was read, and before that it is misplaced (14)
unfoldable pub on_underscore : Sep → NumberPart → Seen → Written → Scan
on_underscore Error p q x = invalid p
on_underscore Skip p nothing x = refuse 14
on_underscore Skip p sign x = refuse 14
on_underscore Skip p digit x = at p digit x

-- one mark (18)
unfoldable pub on_mark : ℕ → NumberPart → Written → Scan
on_mark base whole x = at exponent nothing (with_base x base)
on_mark base fraction x = at exponent nothing (with_base x base)
on_mark base exponent x = refuse 18

unfoldable pub on_exp_digit : ℕ → Written → Scan
on_exp_digit d x = cond (leb (x.exp * 10 + d) (exp_limit x.down)) (at exponent digit (with_exp x x.down (x.exp * 10 + d))) (refuse 19)

-- a digit, of the radix or, in the exponent, decimal; or a byte that has no place
unfoldable pub on_other : ℕ → ℕ → NumberPart → Written → Scan
on_other radix b whole x = cond (is_digit radix b) (at whole digit (with_digit x (digit_of b) 0)) (invalid whole)
on_other radix b fraction x = cond (is_digit radix b) (at fraction digit (with_digit x (digit_of b) 1)) (invalid fraction)
on_other radix b exponent x = cond (is_digit 10 b) (on_exp_digit (digit_of b) x) (invalid exponent)

unfoldable pub step : Sep → ℕ → ℕ → NumberPart → Seen → Written → Scan
step k radix b p q x =
    cond (is_sign b) (on_sign (eqb b 45) p q x)
    (cond (eqb b 46) (on_point p x)
    (cond (eqb b 95) (on_underscore k p q x)
    (cond (is_mark radix b) (on_mark (base_of radix b) p x)
    (on_other radix b p x))))

-- The bytes from the left; a refusal stands. At the end: no digits (11), then an exponent without digits (17).
unfoldable pub scan : Sep → ℕ → List ℕ → Scan → Scan
scan k radix [] r = r
scan k radix (b ∷ t) (refuse n) = refuse n
scan k radix (b ∷ t) (at p q x) = scan k radix t (step k radix b p q x)

unfoldable pub ended : NumberPart → Seen → Written → Scan
ended whole q x = at whole q x
ended fraction q x = at fraction q x
ended exponent nothing x = refuse 17
ended exponent sign x = refuse 17
ended exponent digit x = at exponent digit x

unfoldable pub finish : Scan → Scan
finish (refuse n) = refuse n
finish (at p q x) = cond (eqb (length x.digits) 0) (refuse 11) (ended p q x)

unfoldable pub plain_scan : ℕ → List ℕ → Scan
plain_scan radix t = finish (scan Error radix t (at whole nothing (blank false)))

unfoldable pub literal_scan : Sign → List ℕ → Scan
literal_scan s t = finish (scan Skip (literal_radix s t) (after_prefix (literal_body s t)) (at whole sign (blank (literal_minus s t))))

unfoldable pub reading_of : Scan → Reading
reading_of (at p q x) = number x
reading_of (refuse n) = unread n

unfoldable pub read_scan : Manner → Sign → ℕ → ℕ → ℕ → Scan → Outcome
read_scan k s w f radix (refuse n) = refused n
read_scan k s w f radix (at p q x) = settle k s w (with_sign x.neg (raw_of radix f x))
