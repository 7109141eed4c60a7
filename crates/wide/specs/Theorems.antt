-- Two words stand for the numbers below 2 ^ 128, and for each of them once. Assumes nothing.
use Rattle.std.specs.Prelude.{◌≡◌, ℕ, ◌+◌, ◌*◌, ◌/◌, ◌%◌, ◌^◌, ◌<◌}
use Rattle.std.proofs.Common.{sym, ap, ◌∙◌, arith, lt_of_le_of_lt, lt_of_mul-lt-mul_right, mod-lt, div-add-mod', lit<}
use Rattle.std.proofs.Math.Arith.{digits_lt, digits_div, digits_mod}
use Rattle.wide.specs.declared.Wide.{Wide}
use Rattle.wide.specs.Meaning.{value_of, Words}

pub value-lt : {x : Wide} → Words x → value_of x < 2 ^ 128
value-lt w = digits_lt {m = 2 ^ 64} w.high w.low

-- and a number below 2 ^ 128 carries nothing out of the upper word
pub high_lt : (h l : ℕ) → h * 2 ^ 64 + l < 2 ^ 128 → h < 2 ^ 64
high_lt h l t = lt_of_mul-lt-mul_right (2 ^ 64) (lt_of_le_of_lt (omega arith) t)

-- each word of the value
pub value-high : {x : Wide} → Words x → value_of x / 2 ^ 64 ≡ x.high
value-high {x} w = digits_div x.high w.low

pub value_low : {x : Wide} → Words x → value_of x % 2 ^ 64 ≡ x.low
value_low {x} w = digits_mod x.high w.low

-- so the value settles the words
pub same-value : {x y : Wide} → Words x → Words y → value_of x ≡ value_of y → x ≡ y
same-value {x} {y} v w e =
    let h = sym (value-high v) ∙ ap (λ (n : ℕ). n / 2 ^ 64) e ∙ value-high w in
    let l = sym (value_low v) ∙ ap (λ (n : ℕ). n % 2 ^ 64) e ∙ value_low w in
    λ i. record { high = h i; low = l i }

-- and each number below 2 ^ 128 has its two words
unfoldable pub wide_of : ℕ → Wide
wide_of n = record { high = n / 2 ^ 64; low = n % 2 ^ 64 }

pub wide-words : (n : ℕ) → n < 2 ^ 128 → Words (wide_of n)
unfolding wide_of
wide-words n h = record { high = high_lt (n / 2 ^ 64) (n % 2 ^ 64) (rw div-add-mod' h); low = mod-lt n (lit< tt) }

pub wide_value : (n : ℕ) → value_of (wide_of n) ≡ n
unfolding wide_of
wide_value n = div-add-mod' n (2 ^ 64)
