-- What the public function of this crate promises, an equation, and that it settles the answer. Assumes nothing.
use Rattle.std.specs.Prelude.{◌≡◌, Bool, ℕ}
use Rattle.laws.specs.Unique.{unique}
use Rattle.grammar.specs.Meaning.{is_radix}

abbrev pub IsRadix : ℕ → Bool → Type 0
IsRadix radix r = r ≡ is_radix radix

pub is-radix-unique : (radix : ℕ) (r s : Bool) → IsRadix radix r → IsRadix radix s → r ≡ s
is-radix-unique radix r s p q = unique p q
