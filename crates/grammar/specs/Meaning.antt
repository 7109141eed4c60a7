-- What a text means: which texts are numbers, which number each is, which raw it gives, what is refused.
-- From docs/GRAMMAR.md (S's `parse_bounds` and `lit`) and from document 01, module 2. Assumes nothing.
use Rattle.std.specs.Prelude.{Bool, true, false, cond, ◌&&◌, ◌||◌, not, List, [], ◌∷◌, ◌++◌, ℕ, ◌+◌, ◌-◌, ◌*◌, ◌^◌, leb, ltb, eqb, length, drop, get_or}
use Rattle.laws.specs.Nearest.{nearest_even}
use Rattle.format.specs.declared.Manner.{Manner}
use Rattle.format.specs.declared.Manner.TheVariants.{Strict}
use Rattle.format.specs.Meaning.{Sign, signed, unsigned, with_sign, Outcome, refused, unless, fault_of, settle}

-- A byte as a digit: `0` to `9`, `a` to `f`, `A` to `F`; 16 for any other, which is a digit in no radix.
unfoldable pub digit_of : ℕ → ℕ
digit_of b =
    cond (leb 48 b && leb b 57) (b - 48)
    (cond (leb 97 b && leb b 102) (b - 87) (cond (leb 65 b && leb b 70) (b - 55) 16))

abbrev pub is_sign : ℕ → Bool
is_sign b = eqb b 43 || eqb b 45

-- Exponent marks: `@` in every radix; `e`, `E` in 2, 8, 10; `p`, `P` in 2, 8, 16, and these scale by 2.
abbrev pub is_bit_mark : ℕ → Bool
is_bit_mark b = eqb b 112 || eqb b 80

unfoldable pub is_mark : ℕ → ℕ → Bool
is_mark radix b =
    eqb b 64 || ((eqb b 101 || eqb b 69) && not (eqb radix 16)) || (is_bit_mark b && not (eqb radix 10))

-- What was read: the sign; the digits, in order, and how many of them came after the point; what the
-- exponent scales by (1 if there is none), its sign (`down` for `-`) and its magnitude.
pub record Written : Type 0 where
  pub neg : Bool
  pub digits : List ℕ
  pub after : ℕ
  pub base : ℕ
  pub down : Bool
  pub exp : ℕ

pub data Reading : Type 0 where
  number : Written → Reading
  unread : ℕ → Reading

-- The exponent runs from -2^31 to 2^31 - 1.
abbrev pub exp_limit : Bool → ℕ
exp_limit down = cond down 2147483648 2147483647

-- Nothing read yet but the sign; with one digit more, behind the point or not;
-- with what a mark scales by; with an exponent.
abbrev pub blank : Bool → Written
blank n = record { neg = n; digits = []; after = 0; base = 1; down = false; exp = 0 }

abbrev pub with_digit : Written → ℕ → ℕ → Written
with_digit x d places =
    record {
      neg = x.neg;
      digits = x.digits ++ (d ∷ []);
      after = x.after + places;
      base = x.base;
      down = x.down;
      exp = x.exp;
    }

abbrev pub with_base : Written → ℕ → Written
with_base x b = record { neg = x.neg; digits = x.digits; after = x.after; base = b; down = x.down; exp = x.exp }

abbrev pub with_exp : Written → Bool → ℕ → Written
with_exp x d e = record { neg = x.neg; digits = x.digits; after = x.after; base = x.base; down = d; exp = e }

-- At the end of the text: no digits (11), then an exponent without digits (17).
abbrev pub at_end : Written → Bool → Reading
at_end x seen = cond (eqb (length x.digits) 0) (unread 11) (cond (not seen) (unread 17) (number x))

-- A sign may stand first in the number and first in the exponent; elsewhere it is misplaced (12).
abbrev pub after_sign : List ℕ → List ℕ
after_sign t = cond (is_sign (get_or t 0 0)) (drop 1 t) t

-- From the left, byte by byte; `seen`: a digit of the part was read. The literal reader (`skip`) passes over
-- `_` after one, and before it `_` is misplaced (14); to the plain reader `_` is a byte with no place.
module _ (skip : Bool) (radix : ℕ) where
  -- The exponent: no second mark (18), decimal digits up to the limit (19), else a byte with no place (16).
  unfoldable pub exponent_from : Written → Bool → List ℕ → Reading
  exponent_from x seen [] = at_end x seen
  exponent_from x seen (b ∷ t) =
      cond (is_sign b) (unread 12)
      (cond (eqb b 95)
      (cond skip (cond seen (exponent_from x seen t) (unread 14)) (unread 16))
      (cond (is_mark radix b) (unread 18)
      (cond (not (ltb (digit_of b) 10)) (unread 16)
      (cond (not (leb (x.exp * 10 + digit_of b) (exp_limit x.down))) (unread 19)
      (exponent_from (with_exp x x.down (x.exp * 10 + digit_of b)) true t)))))

  -- The digits: one point (15), one mark, digits of the radix, else a byte with no place (13).
  unfoldable pub digits_from : Written → Bool → Bool → List ℕ → Reading
  digits_from x point seen [] = at_end x true
  digits_from x point seen (b ∷ t) =
      cond (is_sign b) (unread 12)
      (cond (eqb b 46) (cond point (unread 15) (digits_from x true false t))
      (cond (eqb b 95)
      (cond skip (cond seen (digits_from x point seen t) (unread 14)) (unread 13))
      (cond (is_mark radix b)
      (exponent_from (with_exp (with_base x (cond (is_bit_mark b) 2 radix)) (eqb (get_or t 0 0) 45) 0) false (after_sign t))
      (cond (not (ltb (digit_of b) radix)) (unread 13)
      (digits_from (with_digit x (digit_of b) (cond point 1 0)) point true t)))))

unfoldable pub plain_reading : ℕ → List ℕ → Reading
plain_reading radix t = digits_from false radix (blank (eqb (get_or t 0 0) 45)) false false (after_sign t)

-- A literal: `-` only for signed formats; then a prefix `0b`, `0o`, `0x` with `_` right after, or else the
-- radix is 10; then digits as of a text whose sign was read.
unfoldable pub literal_minus : Sign → List ℕ → Bool
literal_minus signed t = eqb (get_or t 0 0) 45
literal_minus unsigned t = false

abbrev pub literal_body : Sign → List ℕ → List ℕ
literal_body s t = cond (literal_minus s t) (drop 1 t) t

unfoldable pub prefix_mark : ℕ → ℕ
prefix_mark b = cond (eqb b 98) 2 (cond (eqb b 111) 8 (cond (eqb b 120) 16 10))

unfoldable pub prefix_radix : List ℕ → ℕ
prefix_radix t = cond (eqb (get_or t 0 0) 48) (prefix_mark (get_or t 1 0)) 10

unfoldable pub drop_underscores : List ℕ → List ℕ
drop_underscores [] = []
drop_underscores (b ∷ t) = cond (eqb b 95) (drop_underscores t) (b ∷ t)

abbrev pub after_prefix : List ℕ → List ℕ
after_prefix t = cond (eqb (prefix_radix t) 10) t (drop_underscores (drop 2 t))

abbrev pub literal_radix : Sign → List ℕ → ℕ
literal_radix s t = prefix_radix (literal_body s t)

unfoldable pub literal_reading : Sign → List ℕ → Reading
literal_reading s t =
    digits_from true (literal_radix s t) (blank (literal_minus s t)) false false (after_prefix (literal_body s t))

-- The number written, |t|, as a fraction of naturals: the digits over radix^after, times or over base^exp.
unfoldable pub nat_from : ℕ → List ℕ → ℕ → ℕ
nat_from radix [] n = n
nat_from radix (d ∷ ds) n = nat_from radix ds (n * radix + d)

unfoldable pub num : ℕ → Written → ℕ
num radix x = nat_from radix x.digits 0 * cond x.down 1 (x.base ^ x.exp)

unfoldable pub den : ℕ → Written → ℕ
den radix x = radix ^ x.after * cond x.down (x.base ^ x.exp) 1

-- "The raw is |t| x 2^F rounded to nearest, ties to even, then the sign applied."
unfoldable pub raw_of : ℕ → ℕ → Written → ℕ
raw_of radix f x = nearest_even (num radix x * 2 ^ f) (den radix x)

unfoldable pub outcome_of : Manner → Sign → ℕ → ℕ → ℕ → Reading → Outcome
outcome_of k s w f radix (unread n) = refused n
outcome_of k s w f radix (number x) = settle k s w (with_sign x.neg (raw_of radix f x))

-- The readers: first the format's refusals, 1 and 2, then "radix not 2, 8, 10 or 16" (3), "text above 4096
-- bytes" (4), and the text.
unfoldable pub is_radix : ℕ → Bool
is_radix r = eqb r 2 || eqb r 8 || eqb r 10 || eqb r 16

abbrev pub text_limit : ℕ
text_limit = 4096

unfoldable pub read_of : Manner → Sign → ℕ → ℕ → ℕ → List ℕ → Outcome
read_of k s w f radix t =
    unless (fault_of w f)
    (cond (is_radix radix)
    (cond (leb (length t) text_limit) (outcome_of k s w f radix (plain_reading radix t)) (refused 4))
    (refused 3))

unfoldable pub literal_of : Sign → ℕ → ℕ → List ℕ → Outcome
literal_of s w f t =
    unless (fault_of w f)
    (cond (leb (length t) text_limit)
    (outcome_of Strict s w f (literal_radix s t) (literal_reading s t))
    (refused 4))
