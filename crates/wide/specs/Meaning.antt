-- What two words stand for: document 01, "pairs of 64-bit words for the decimal
-- group, product and quotient". Assumes nothing.
use Rattle.std.specs.Prelude.{ℕ, ◌+◌, ◌*◌, ◌^◌, ◌<◌}
use Rattle.wide.specs.declared.Wide.{Wide}

abbrev pub value_of : Wide → ℕ
value_of x = x.high * 2 ^ 64 + x.low

-- both words of a value of the code are below 2 ^ 64
pub record Words (x : Wide) : Type 0 where
  pub high : x.high < 2 ^ 64
  pub low : x.low < 2 ^ 64
