-- The promises of the readers, each an equation over the kind of raw, and that each settles its answer. Assumes
-- nothing.
use Rattle.std.specs.Prelude.{◌≡◌, List, ℕ}
use Rattle.format.specs.declared.Manner.{Manner}
use Rattle.format.specs.Meaning.{Kind, Answered, answered}
use Rattle.laws.specs.Unique.{unique}
use Rattle.grammar.specs.Meaning.{read_of, literal_of}

module _ {A : Type 0} (c : Kind A) (t : List ℕ) (w f : ℕ) where
  abbrev pub Read : ℕ → Manner → Answered A → Type 0
  Read radix k r = r ≡ answered c (read_of k c.sign w f radix t)

  abbrev pub Literal : Answered A → Type 0
  Literal r = r ≡ answered c (literal_of c.sign w f t)

  pub read-unique : (radix : ℕ) (k : Manner) (r s : Answered A) → Read radix k r → Read radix k s → r ≡ s
  read-unique radix k r s p q = unique p q

  pub literal-unique : (r s : Answered A) → Literal r → Literal s → r ≡ s
  literal-unique r s p q = unique p q
