-- What the code writes of a text, and when its fraction ends. Assumes nothing.
use Rattle.std.specs.Prelude.{◌≡◌, cond, List, [], ◌∷◌, map, ℕ, ◌*◌, ◌^◌, eqb}
use Rattle.decimal.specs.Meaning.{byte_of, fraction_by}

-- k more digits are enough for n / m: n times 2^k is a whole number of m
pub record Ends (k m n : ℕ) : Type 0 where
  pub times : ℕ
  pub whole : n * 2 ^ k ≡ times * m

-- the text of a fraction of 64 bits that has at most k digits
unfoldable pub word_text : ℕ → ℕ → List ℕ
word_text k n = cond (eqb n 0) [] (46 ∷ map byte_of (fraction_by (2 ^ 64) k n))
