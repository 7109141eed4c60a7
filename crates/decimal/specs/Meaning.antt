-- The text of a number, document 01, module 6: "Exact decimal: `-` if negative, integer digits without leading zeros (a
-- lone `0` for none), then, if the fraction is not 0, a point and its digits with no trailing zero." Assumes nothing.
use Rattle.std.specs.Prelude.{Bool, true, false, cond, List, [], ◌∷◌, ◌++◌, map, ℕ, zero, suc, ◌+◌, ◌*◌, ◌/◌, ◌%◌, ◌^◌, leb, ltb, eqb, ℤ, pos, negsuc, length, drop}
use Rattle.format.specs.Meaning.{Outcome, done, refused, unless, fault_of}

-- a digit as a byte: `0` is 48
abbrev pub byte_of : ℕ → ℕ
byte_of d = d + 48

-- "integer digits without leading zeros (a lone `0` for none)": the digits of n / 10, if there are any,
-- before n % 10. There are no more than n divisions.
unfoldable pub whole_by : ℕ → ℕ → List ℕ
whole_by zero n = n ∷ []
whole_by (suc k) n = cond (ltb n 10) (n ∷ []) (whole_by k (n / 10) ++ (n % 10 ∷ []))

unfoldable pub whole_digits : ℕ → List ℕ
whole_digits n = whole_by n n

-- "its digits with no trailing zero": of the fraction n / m by exact division, ten times what is left by m, until
-- nothing is left. For m = 2^F these are at most F digits (Digits: `fraction-ends`).
unfoldable pub fraction_by : ℕ → ℕ → ℕ → List ℕ
fraction_by m zero n = []
fraction_by m (suc k) n = cond (eqb n 0) [] (n * 10 / m ∷ fraction_by m k (n * 10 % m))

unfoldable pub fraction_digits : ℕ → ℕ → List ℕ
fraction_digits f n = fraction_by (2 ^ f) f n

-- the parts as bytes: `-` is 45 and the point 46
unfoldable pub sign_text : Bool → List ℕ
sign_text neg = cond neg (45 ∷ []) []

unfoldable pub whole_text : ℕ → List ℕ
whole_text n = map byte_of (whole_digits n)

unfoldable pub fraction_text : ℕ → ℕ → List ℕ
fraction_text f n = cond (eqb n 0) [] (46 ∷ map byte_of (fraction_digits f n))

-- the text of a sign and a magnitude with F fraction bits: the whole part is
-- magnitude / 2^F, the fraction is the rest over 2^F
unfoldable pub text_of : Bool → ℕ → ℕ → List ℕ
text_of neg m f = sign_text neg ++ (whole_text (m / 2 ^ f) ++ fraction_text f (m % 2 ^ f))

-- the text of a raw
unfoldable pub raw_text : ℤ → ℕ → List ℕ
raw_text (pos n) f = text_of false n f
raw_text (negsuc n) f = text_of true (suc n) f

-- "A buffer shorter than the text is 5; bytes after the text stay."
unfoldable pub put : List ℕ → List ℕ → Outcome
put t out = cond (leb (length t) (length out)) (done (pos (length t)) false) (refused 5)

unfoldable pub buffer_after : List ℕ → List ℕ → Outcome → List ℕ
buffer_after t out (done x flag) = t ++ drop (length t) out
buffer_after t out (refused n) = out

-- The whole answer, and the buffer as it is left: "Every refusal has .. lent buffers .. unchanged".
unfoldable pub write_of : ℤ → ℕ → ℕ → List ℕ → Outcome
write_of raw w f out = unless (fault_of w f) (put (raw_text raw f) out)

unfoldable pub left_of : ℤ → ℕ → ℕ → List ℕ → List ℕ
left_of raw w f out = buffer_after (raw_text raw f) out (write_of raw w f out)
