-- The promises of the public functions, each an equation over the kind of raw, and that each settles its answer. An
-- unsigned operand is a number that is not negative. Assumes nothing.
use Rattle.std.specs.Prelude.{◌≡◌, List, ℕ, length}
use Rattle.format.specs.Meaning.{Kind, unsigned_kind, Answered, answered}
use Rattle.laws.specs.Unique.{unique}
use Rattle.byte_order.specs.Meaning.{swap_of, from_bytes_of, from_le, from_be, stored_of, buffer_of}

module _ {A : Type 0} (c : Kind A) where
  abbrev pub Swap : A → ℕ → ℕ → Answered A → Type 0
  Swap a w f r = r ≡ answered c (swap_of c.sign w f (c.number_of a))

  abbrev pub FromLe : List ℕ → ℕ → ℕ → Answered A → Type 0
  FromLe t w f r = r ≡ answered c (from_bytes_of c.sign w f (length t) (from_le t))

  abbrev pub FromBe : List ℕ → ℕ → ℕ → Answered A → Type 0
  FromBe t w f r = r ≡ answered c (from_bytes_of c.sign w f (length t) (from_be 0 t))

-- to_le_bytes and to_be_bytes: the answer, and the lent buffer, from `out` to `after`
pub record Stored (bytes : List ℕ) (w f : ℕ) (out after : List ℕ) (r : Answered ℕ) : Type 0 where
  pub answer : r ≡ answered unsigned_kind (stored_of w f (length out))
  pub buffer : after ≡ buffer_of w f bytes out

-- two answers that meet a promise are equal
module _ {A : Type 0} (c : Kind A) (a : A) (t : List ℕ) (w f : ℕ) {r s : Answered A} where
  pub swap-unique : Swap c a w f r → Swap c a w f s → r ≡ s
  swap-unique p q = unique p q

  pub from-le-unique : FromLe c t w f r → FromLe c t w f s → r ≡ s
  from-le-unique p q = unique p q

  pub from-be-unique : FromBe c t w f r → FromBe c t w f s → r ≡ s
  from-be-unique p q = unique p q

pub stored-unique : (bytes : List ℕ) (w f : ℕ) (out : List ℕ) {l m : List ℕ} {r s : Answered ℕ}
    → Stored bytes w f out l r → Stored bytes w f out m s → (r ≡ s) × (l ≡ m)
stored-unique bytes w f out p q = (unique p.answer q.answer, unique p.buffer q.buffer)
