-- What the operands and the results of the code stand for, and the order of refusals. Assumes nothing.
use Rattle.std.specs.Prelude.{cond, ℕ, eqb, ℤ}
use Rattle.format.specs.Meaning.{with_sign, exact}
use Rattle.exact.specs.declared.Number.{Number}
use Rattle.format.specs.declared.Exact.{Exact}

abbrev pub number_of : Number → ℤ
number_of x = with_sign x.neg x.size

abbrev pub exact_of : Exact → ℤ
exact_of x = exact x.neg x.high x.low

-- "Several apply: 1, 2, .. in this order": the first of two refusals, 0 for none
unfoldable pub or_else : ℕ → ℕ → ℕ
or_else n m = cond (eqb n 0) m n
