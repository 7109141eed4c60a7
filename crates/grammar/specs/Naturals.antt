-- A list of digits as a number: the first digit apart, the last one apart, one list after another; and how large it is. Assumes nothing.
use Rattle.std.specs.Prelude.{◌≡◌}
use Rattle.std.proofs.Math.Path.{refl}
use Rattle.std.proofs.Common.{◌∙◌, arith}
use mathlib.Core.List.{List, [], ◌∷◌, ◌++◌, Memᴰ}
use Prim.Native.Nat.{ℕ, suc, ◌+◌, ◌*◌, ◌^◌, ◌≤◌, ◌<◌}
use Rattle.std.proofs.Math.Nat.{mul-le-mul_right, pow-suc, pow-zero}
use Rattle.std.proofs.Math.ListN.{length}
use Rattle.grammar.specs.Meaning.{nat_from}

abbrev pub nat_of : ℕ → List ℕ → ℕ
nat_of radix ds = nat_from radix ds 0

module _ (radix : ℕ) where
  pub nat_from-append : (ds es : List ℕ) (n : ℕ) → nat_from radix (ds ++ es) n ≡ nat_from radix es (nat_from radix ds n)
  unfolding nat_from
  nat_from-append [] es n = refl
  nat_from-append (d ∷ ds) es n = nat_from-append ds es (n * radix + d)

  pub nat_from-snoc : (ds : List ℕ) (d n : ℕ) → nat_from radix (ds ++ (d ∷ [])) n ≡ nat_from radix ds n * radix + d
  unfolding nat_from
  nat_from-snoc ds d n = nat_from-append ds (d ∷ []) n

  -- what was read before counts radix^n times, n the number of digits
  pub nat_from-shift : (ds : List ℕ) (n : ℕ) → nat_from radix ds n ≡ n * radix ^ length ds + nat_of radix ds
  unfolding nat_from
  nat_from-shift [] n = rw pow-zero (omega arith)
  nat_from-shift (d ∷ ds) n = rw pow-suc (omega (arith, nat_from-shift ds (n * radix + d), nat_from-shift ds (0 * radix + d)))

  pub nat_of-cons : (d : ℕ) (ds : List ℕ) → nat_of radix (d ∷ ds) ≡ d * radix ^ length ds + nat_of radix ds
  unfolding nat_from
  nat_of-cons d ds = omega (arith, nat_from-shift ds (0 * radix + d))

  pub nat_of-append : (ds es : List ℕ) → nat_of radix (ds ++ es) ≡ nat_of radix ds * radix ^ length es + nat_of radix es
  nat_of-append ds es = nat_from-append ds es 0 ∙ nat_from-shift es (nat_of radix ds)

  -- n digits of the radix are a number below radix^n
  pub nat_of-below : (ds : List ℕ) → ((d : ℕ) → Memᴰ d ds → d < radix) → nat_of radix ds < radix ^ length ds
  unfolding nat_from
  nat_of-below [] h = rw pow-zero (omega arith)
  nat_of-below (d ∷ ds) h =
      let rest = nat_of-below ds (λ c m. h c (Memᴰ.tail m)) in
      let most : suc d * radix ^ length ds ≤ radix * radix ^ length ds = mul-le-mul_right (radix ^ length ds) (h d (Memᴰ.head refl)) in
      rw pow-suc (omega (arith, nat_of-cons d ds))
