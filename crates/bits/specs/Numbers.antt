-- The digits as one number, taken apart: those in front, those behind, and whether they are all 0. Assumes nothing.
use Rattle.std.specs.Prelude.{◌≡◌, refl, Bool, true, false, not, ◌||◌, ℕ, suc, ◌+◌, ◌-◌, ◌*◌, ◌^◌, ◌<◌, eqb, length, take, drop, get_or}
use Rattle.std.proofs.Common.{sym, ap, ◌∙◌, true≢false, mul-pos, arith, take-append-drop, length-drop, drop-cons, eqb-true}
use Rattle.std.proofs.lemmas.Bool.{false≢true, eqb-false}
use mathlib.Core.List.{List, [], ◌∷◌}
use Rattle.std.proofs.Math.Nat.{one-le-pow}
use Rattle.grammar.specs.Meaning.{nat_from}
use Rattle.grammar.specs.Naturals.{nat_of, nat_from-append, nat_from-shift}
use Rattle.fold.specs.Body.{any_of}

-- the digit number k, with those before and after it
pub nat-around : (radix : ℕ) (ds : List ℕ) (k : ℕ) → k < length ds
    → nat_of radix ds ≡ (nat_of radix (take k ds) * radix + get_or ds k 0) * radix ^ (length ds - k - 1) + nat_of radix (drop (suc k) ds)
unfolding nat_from
nat-around radix ds k h =
    let n = nat_of radix (take k ds) in
    let behind : nat_from radix (drop k ds) n
    ≡ nat_from radix (drop (suc k) ds) (n * radix + get_or ds k 0) = ap (λ (l : List ℕ). nat_from radix l n) (drop-cons ds k 0 h) in
    let left : length (drop (suc k) ds) ≡ length ds - k - 1 = length-drop (suc k) ds ∙ omega arith in
    ap (nat_of radix) (sym (take-append-drop k ds))
    ∙ nat_from-append radix (take k ds) (drop k ds) 0
    ∙ behind
    ∙ nat_from-shift radix (drop (suc k) ds) (n * radix + get_or ds k 0)
    ∙ ap (λ (j : ℕ). (n * radix + get_or ds k 0) * radix ^ j + nat_of radix (drop (suc k) ds)) left

-- ---- all 0, or not
pub any_none : (radix : ℕ) (ds : List ℕ) → any_of ds ≡ false → nat_of radix ds ≡ 0
unfolding nat_from
any_none radix [] e = refl
any_none radix (d ∷ ds) e = go (eqb d 0) refl (λ a. any_none radix ds a) e
  where
    go : (z : Bool) → eqb d 0 ≡ z → (any_of ds ≡ false → nat_of radix ds ≡ 0) → (not z || any_of ds) ≡ false → nat_from radix ds (0 * radix + d) ≡ 0
    go true f more a = omega (arith, nat_from-shift radix ds (0 * radix + d), more a, ap (λ (n : ℕ). n * radix ^ length ds) (eqb-true d 0 f))
    go false f more a = absurd (true≢false a)

pub any_some : (radix : ℕ) (ds : List ℕ) → 0 < radix → any_of ds ≡ true → 0 < nat_of radix ds
unfolding nat_from
any_some radix [] r e = absurd (false≢true e)
any_some radix (d ∷ ds) r e = go (eqb d 0) refl (λ a. any_some radix ds r a) e
  where
    go : (z : Bool) → eqb d 0 ≡ z → (any_of ds ≡ true → 0 < nat_of radix ds) → (not z || any_of ds) ≡ true → 0 < nat_from radix ds (0 * radix + d)
    go true f more a = omega (arith, nat_from-shift radix ds (0 * radix + d), more a)
    go false f more a =
        let some : 0 < d * radix ^ length ds = mul-pos (omega (arith, eqb-false d 0 f)) (one-le-pow (length ds) radix r) in
        omega (arith, nat_from-shift radix ds (0 * radix + d))
