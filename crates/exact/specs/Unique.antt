-- What the promises of this crate settle, and those of the crates on it that answer with an `Exact`. A promise is an equation between numbers, so two
-- answers that meet it stand for one number. Then they have the same words, and the same sign too unless the number is 0: 0 and -0 are one number.
-- Assumes nothing.
use Rattle.std.specs.Prelude.{◌≡◌, refl, ◌⊎◌, Bool, true, false, ℕ, ◌+◌, ◌*◌, ◌^◌, nat_abs}
use Rattle.std.proofs.Common.{sym, ap, ◌∙◌, inl, inr}
use Rattle.laws.specs.Signed.{signed as kit}
use Rattle.format.specs.Meaning.{with_sign}
use Rattle.format.specs.Place.{sign-out}
use Rattle.wide.specs.declared.Wide.{Wide}
use Rattle.wide.specs.Meaning.{Words}
use Rattle.wide.specs.Theorems.{same-value}
use Rattle.exact.specs.declared.Number.{Number}
use Rattle.format.specs.declared.Exact.{Exact}
use Rattle.exact.specs.Meaning.{number_of, exact_of}
use Rattle.exact.specs.Signs.{abs-sign}

-- a sign and a magnitude, by the number
same_size : (n m : Bool) (a b : ℕ) → with_sign n a ≡ with_sign m b → a ≡ b
same_size n m a b e = sym (abs-sign n a) ∙ ap nat_abs e ∙ abs-sign m b

same_sign : (n m : Bool) (a b : ℕ) → with_sign n a ≡ with_sign m b → (n ≡ m) ⊎ (a ≡ 0)
same_sign true true a b e = inl refl
same_sign false false a b e = inl refl
same_sign true false a b e = inr (omega (kit, e, sign-out true a, sign-out false b))
same_sign false true a b e = inr (omega (kit, e, sign-out false a, sign-out true b))

pub number-settled : {x y : Number} → number_of x ≡ number_of y → (x.size ≡ y.size) × ((x.neg ≡ y.neg) ⊎ (x.size ≡ 0))
number-settled {x} {y} e =
    (same_size x.neg y.neg x.size y.size e, same_sign x.neg y.neg x.size y.size e)

-- both words of a result of the code are below 2^64
abbrev pub words_of : Exact → Wide
words_of x = record { high = x.high; low = x.low }

pub exact-settled : {x y : Exact} → Words (words_of x) → Words (words_of y) → exact_of x ≡ exact_of y
    → (words_of x ≡ words_of y) × ((x.neg ≡ y.neg) ⊎ (x.high * 2 ^ 64 + x.low ≡ 0))
exact-settled {x} {y} v w e =
    let a = x.high * 2 ^ 64 + x.low in
    let b = y.high * 2 ^ 64 + y.low in
    (same-value v w (same_size x.neg y.neg a b e), same_sign x.neg y.neg a b e)
