-- Document 01, module 4, byte order, for both signs: the refusals, then the bytes. a is a raw, also one
-- that the format could not hold. Assumes nothing.
use Rattle.std.specs.Prelude.{List, [], ◌∷◌, ◌++◌, reverse, false, cond, ℕ, zero, suc, ◌+◌, ◌*◌, ◌/◌, ◌%◌, eqb, leb, length, drop, ℤ, pos}
use Rattle.laws.specs.Diff.{up}
use Rattle.format.specs.Meaning.{Sign, unsigned, Outcome, done, fault_of, unless, wrap}
use Rattle.exact.specs.Meaning.{or_else}

-- "byte order": n bytes of x, the lowest first; and the number of such bytes, and of bytes whose
-- first is the highest, behind the number `high`
unfoldable pub le_bytes : ℕ → ℕ → List ℕ
le_bytes zero x = []
le_bytes (suc n) x = x % 256 ∷ le_bytes n (x / 256)

unfoldable pub from_le : List ℕ → ℕ
from_le [] = 0
from_le (b ∷ t) = from_le t * 256 + b

unfoldable pub from_be : ℕ → List ℕ → ℕ
from_be high [] = high
from_be high (b ∷ t) = from_be (high * 256 + b) t

-- a raw's bytes are the W / 8 bytes of its W low bits
unfoldable pub low_bits : ℕ → ℤ → ℕ
low_bits w a = up (wrap unsigned w a)

abbrev pub little_of : ℕ → ℤ → List ℕ
little_of w a = le_bytes (w / 8) (low_bits w a)

abbrev pub big_of : ℕ → ℤ → List ℕ
big_of w a = reverse (little_of w a)

-- swapped: the lowest is read as the highest
abbrev pub swap_of : Sign → ℕ → ℕ → ℤ → Outcome
swap_of s w f a = unless (fault_of w f) (done (wrap s w (pos (from_be 0 (little_of w a)))) false)

-- "5: output buffer too small, or lists of unequal length"
unfoldable pub buffer_fault : ℕ → ℕ → ℕ
buffer_fault w n = cond (leb (w / 8) n) 0 5

unfoldable pub length_fault : ℕ → ℕ → ℕ
length_fault w n = cond (eqb n (w / 8)) 0 5

-- the raw of W / 8 bytes; x is the number that they are
abbrev pub from_bytes_of : Sign → ℕ → ℕ → ℕ → ℕ → Outcome
from_bytes_of s w f n x = unless (or_else (fault_of w f) (length_fault w n)) (done (wrap s w (pos x)) false)

-- to a buffer with n places: how many bytes are written; and the buffer after, the rest of which stays
abbrev pub stored_of : ℕ → ℕ → ℕ → Outcome
stored_of w f n = unless (or_else (fault_of w f) (buffer_fault w n)) (done (pos (w / 8)) false)

unfoldable pub buffer_of : ℕ → ℕ → List ℕ → List ℕ → List ℕ
buffer_of w f bytes out =
    cond (eqb (or_else (fault_of w f) (buffer_fault w (length out))) 0) (bytes ++ drop (w / 8) out) out
