-- One more byte of the layout: a digit before what is written of the whole part, a digit after what is written of the fraction.
-- Each law keeps "what is left to write, beside what is written" equal to the goal. Assumes nothing.
use mathlib.Core.Path.{◌≡◌, refl, sym, ap, ap₂, ◌∙◌}
use mathlib.Core.Bool.{Bool, true, false, cond}
use mathlib.Core.List.{List, [], ◌∷◌, ◌++◌, map, append_assoc, append-nil}
use Prim.Native.Nat.{ℕ, zero, suc, ◌+◌, ◌-◌, ◌*◌, ◌/◌, ◌%◌, ◌^◌, ◌≤◌, ◌<◌}
use native.Mathlib.Nat.{div-eq_of_lt, mod-eq_of_lt, mod-lt, div-add-mod', lt_of_mul-lt-mul_right, mul-add-div_right, mul-add-mod_self_right, add-zero}
use native.Mathlib.Omega.{arith}
use lib.Dec.{eqb}
use borrow.Author.Tests.{eqb-true, eqb-false, ne_eqb}
use Rattle.decimal.specs.Meaning.{byte_of, whole_text, fraction_by}
use Rattle.decimal.specs.Digits.{whole-text-last, whole-text-more, fraction-none, fraction-more, ends_next, ends-none}
use Rattle.decimal.specs.Layout.{Ends}
use Rattle.decimal.specs.Laid.{unless_zero}

-- a digit more of the whole part, before what is written of it
module _ (rest v : ℕ) (text : List ℕ) {goal : List ℕ} (e : whole_text rest ++ text ≡ goal) where
  pub whole-step : 10 ≤ rest → v ≡ byte_of (rest % 10) → whole_text (rest / 10) ++ (v ∷ text) ≡ goal
  whole-step m b =
      ap (λ (x : ℕ). whole_text (rest / 10) ++ (x ∷ text)) b
      ∙ sym (append_assoc (whole_text (rest / 10)) (byte_of (rest % 10) ∷ []) text)
      ∙ ap (λ (r : List ℕ). r ++ text) (sym (whole-text-more rest m))
      ∙ e

  pub whole-stop : rest < 10 → v ≡ byte_of rest → v ∷ text ≡ goal
  whole-stop m b = ap (λ (x : ℕ). x ∷ text) b ∙ ap (λ (r : List ℕ). r ++ text) (sym (whole-text-last rest m)) ∙ e

-- a number of two words is its upper word times m, and the rest
split : (high low x : ℕ) {m : ℕ} → 0 < m → low < m → high * m + low ≡ x → (high ≡ x / m) × (low ≡ x % m)
split high low x {m} p h e = (
  sym (ap (λ (v : ℕ). v / m) (sym e) ∙ mul-add-div_right p high low ∙ ap (λ (v : ℕ). high + v) (div-eq_of_lt h) ∙ add-zero high),
  sym (ap (λ (v : ℕ). v % m) (sym e) ∙ mul-add-mod_self_right high m low ∙ mod-eq_of_lt h),
)

-- while something is left, a digit is left to write
pub ends_more : (m j rest : ℕ) → rest < m → (rest ≡ 0 → ⊥) → Ends j m rest → 0 < j
ends_more m zero rest h n e = absurd (n (ends-none m rest h e))
ends_more m (suc j) rest h n e = omega arith

-- the text is the goal, but for a last zero
pub record Last (text goal : List ℕ) : Type 0 where
  pub front : List ℕ
  pub byte : ℕ
  pub is : text ≡ front ++ (byte ∷ [])
  pub whole : front ++ unless_zero byte ≡ goal

-- A pair of digits: the word above a hundred times what is left is the next two digits, and the word below is what they leave.
module _ (m rest high low : ℕ) (p : 0 < m) (h : low < m) (e : high * m + low ≡ rest * 100) where
  abbrev one : ℕ
  one = rest * 10 / m

  abbrev left : ℕ
  left = rest * 10 % m

  abbrev two : ℕ
  two = left * 10 / m

  two-digit : two < 10
  two-digit = lt_of_mul-lt-mul_right m (omega (arith, div-add-mod' (left * 10) m, mod-lt (rest * 10) p))

  pair : (high ≡ one * 10 + two) × (low ≡ left * 10 % m)
  pair =
      let cut : one * m + left ≡ rest * 10 = div-add-mod' (rest * 10) m in
      let next : two * m + left * 10 % m ≡ left * 10 = div-add-mod' (left * 10) m in
      let both : (one * 10 + two) * m + left * 10 % m ≡ rest * 100 = omega (arith, cut, next) in
      let a = split high low (rest * 100) p h e in
      let b = split (one * 10 + two) (left * 10 % m) (rest * 100) p (mod-lt (left * 10) p) both in
      (a.0 ∙ sym b.0, a.1 ∙ sym b.1)

  first-is : high / 10 ≡ one
  first-is = omega (arith, pair.0, two-digit)

  second_is : high % 10 ≡ two
  second_is = omega (arith, pair.0, two-digit)

  -- the second is no zero to spare where the first left something
  no-spare : (left ≡ 0 → ⊥) → low ≡ 0 → high % 10 ≡ 0 → ⊥
  no-spare n z t =
      let zero-two : two * m ≡ 0 * m = ap (λ (v : ℕ). v * m) (sym second_is ∙ t) in
      n (omega (arith, zero-two, div-add-mod' (left * 10) m, pair.1))

  -- and one where it left nothing
  all-spare : left ≡ 0 → (low ≡ 0) × (high % 10 ≡ 0)
  all-spare z =
      let nothing : left * 10 ≡ 0 = omega (arith, z) in
      (pair.1 ∙ ap (λ (v : ℕ). v % m) nothing ∙ mod-eq_of_lt p, second_is ∙ ap (λ (v : ℕ). v / m) nothing ∙ div-eq_of_lt p)

  pub ends-pair : (j : ℕ) → rest < m → (rest ≡ 0 → ⊥) → Ends j m rest → Ends (j - 2) m low
  ends-pair j r n t = go j t (eqb left 0) refl
    where
      go : (j : ℕ) → Ends j m rest → (u : Bool) → eqb left 0 ≡ u → Ends (j - 2) m low
      go j t true z = record { times = 0; whole = ap (λ (v : ℕ). v * 2 ^ (j - 2)) (all-spare (eqb-true left 0 z)).0 ∙ omega arith }
      go zero t false z = absurd (n (ends-none m rest r t))
      go (suc zero) t false z = absurd (eqb-false left 0 z (ends-none m left (mod-lt (rest * 10) p) (ends_next 0 m rest t)))
      go (suc (suc j)) t false z =
          let k : suc (suc j) - 2 ≡ j = omega arith in
          rw (k, pair.1) (ends_next j m left (ends_next (suc j) m rest t))

  -- both behind the text
  behind : (a b : ℕ) (text ds : List ℕ) → a ≡ byte_of (high / 10) → b ≡ byte_of (high % 10)
      → text ++ (a ∷ []) ++ (b ∷ []) ++ ds ≡ text ++ (byte_of one ∷ byte_of two ∷ ds)
  behind a b text ds ea eb =
      append_assoc (text ++ (a ∷ [])) (b ∷ []) ds
      ∙ append_assoc text (a ∷ []) (b ∷ ds)
      ∙ ap₂ (λ (x y : ℕ). text ++ (x ∷ y ∷ ds)) (ea ∙ ap byte_of first-is) (eb ∙ ap byte_of second_is)

  module _ (a b : ℕ) (text goal : List ℕ) (r : rest < m) (n : rest ≡ 0 → ⊥) (ea : a ≡ byte_of (high / 10)) (eb : b ≡ byte_of (high % 10)) where
    two-more : (j : ℕ) → (left ≡ 0 → ⊥) → text ++ map byte_of (fraction_by m (suc (suc j)) rest) ≡ goal
        → text ++ (a ∷ []) ++ (b ∷ []) ++ map byte_of (fraction_by m j low) ≡ goal
    two-more j some g =
        let two-left : fraction_by m (suc (suc j)) rest ≡ one ∷ two ∷ fraction_by m j (left * 10 % m) =
        fraction-more m (suc j) rest n ∙ ap (λ (ds : List ℕ). one ∷ ds) (fraction-more m j left some) in
        behind a b text (map byte_of (fraction_by m j low)) ea eb
        ∙ ap (λ (x : ℕ). text ++ (byte_of one ∷ byte_of two ∷ map byte_of (fraction_by m j x))) pair.1
        ∙ ap (λ (ds : List ℕ). text ++ map byte_of ds) (sym two-left)
        ∙ g

    pub pair_more : (j : ℕ) → Ends j m rest → text ++ map byte_of (fraction_by m j rest) ≡ goal → (low ≡ 0 → ⊥)
        → text ++ (a ∷ []) ++ (b ∷ []) ++ map byte_of (fraction_by m (j - 2) low) ≡ goal
    pair_more j t g w = go j t g (eqb left 0) refl
      where
        go : (j : ℕ) → Ends j m rest → text ++ map byte_of (fraction_by m j rest) ≡ goal → (u : Bool) → eqb left 0 ≡ u
            → text ++ (a ∷ []) ++ (b ∷ []) ++ map byte_of (fraction_by m (j - 2) low) ≡ goal
        go j t g true z = absurd (w (all-spare (eqb-true left 0 z)).0)
        go zero t g false z = absurd (n (ends-none m rest r t))
        go (suc zero) t g false z = absurd (eqb-false left 0 z (ends-none m left (mod-lt (rest * 10) p) (ends_next 0 m rest t)))
        go (suc (suc j)) t g false z =
            let k : suc (suc j) - 2 ≡ j = omega arith in
            ap (λ (i : ℕ). text ++ (a ∷ []) ++ (b ∷ []) ++ map byte_of (fraction_by m i low)) k ∙ two-more j (eqb-false left 0 z) g

    pub pair_last : (j : ℕ) → Ends j m rest → text ++ map byte_of (fraction_by m j rest) ≡ goal → low ≡ 0 → Last (text ++ (a ∷ []) ++ (b ∷ [])) goal
    unfolding unless_zero
    pair_last j t g w = record { front = text ++ (a ∷ []); byte = b; is = refl; whole = go j t g (eqb left 0) refl }
      where
        go : (j : ℕ) → Ends j m rest → text ++ map byte_of (fraction_by m j rest) ≡ goal → (u : Bool) → eqb left 0 ≡ u
            → text ++ (a ∷ []) ++ cond (eqb b 48) [] (b ∷ []) ≡ goal
        go zero t g u z = absurd (n (ends-none m rest r t))
        go (suc j) t g true z =
            let none = eqb-true left 0 z in
            let zero-byte : b ≡ 48 = eb ∙ ap byte_of (all-spare none).1 in
            let one_left : fraction_by m (suc j) rest ≡ one ∷ [] = fraction-more m j rest n ∙ ap (λ (v : ℕ). one ∷ fraction_by m j v) none
            ∙ ap (λ (ds : List ℕ). one ∷ ds) (fraction-none m j) in
            rw zero-byte (
            append-nil (text ++ (a ∷ []))
            ∙ ap (λ (x : ℕ). text ++ (x ∷ [])) (ea ∙ ap byte_of first-is)
            ∙ ap (λ (ds : List ℕ). text ++ map byte_of ds) (sym one_left)
            ∙ g
            )
        go (suc zero) t g false z = absurd (eqb-false left 0 z (ends-none m left (mod-lt (rest * 10) p) (ends_next 0 m rest t)))
        go (suc (suc j)) t g false z =
            let some = eqb-false left 0 z in
            let kept : b ≡ 48 → ⊥ = λ q. no-spare some w (omega (arith, eb)) in
            let nothing : fraction_by m j low ≡ [] = ap (fraction_by m j) w ∙ fraction-none m j in
            rw (ne_eqb b 48 kept) (
            sym (append-nil (text ++ (a ∷ []) ++ (b ∷ [])))
            ∙ ap (λ (ds : List ℕ). text ++ (a ∷ []) ++ (b ∷ []) ++ map byte_of ds) (sym nothing)
            ∙ two-more j some g
            )
