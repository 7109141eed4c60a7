-- The classes of bytes as the code tells them apart, and that a digit has none of them. Assumes nothing.
use Rattle.std.specs.Prelude.{◌≡◌, refl, Bool, true, false, cond, ◌||◌, ◌⊎◌, Option, Some, None, ℕ, ◌-◌, ◌≤◌, ◌<◌, eqb}
use Rattle.std.proofs.Common.{inl, inr, arith}
use Rattle.std.proofs.Math.Bool.{and-false}
use Rattle.std.proofs.lemmas.Bool.{false≢true}
use Rattle.std.proofs.Math.Decide.{dec_le}
use borrow.Author.Tests.{le-leb, lt-leb, ne_eqb, ltb-true, eqb-true}
use Rattle.grammar.specs.declared.byte.Class.{Class}
use Rattle.grammar.specs.declared.byte.Class.TheVariants.{Sign, Point, Underscore, Mark, Other}
use Rattle.grammar.specs.Meaning.{digit_of, is_sign, is_mark, is_radix}
use Rattle.grammar.specs.Automaton.{is_digit, base_of}

-- a byte as a digit of a radix, and what a mark of a radix scales by
unfoldable pub digit : ℕ → ℕ → Option ℕ
digit radix b = cond (is_digit radix b) (Some (digit_of b)) None

unfoldable pub mark_base : ℕ → ℕ → Option ℕ
mark_base radix b = cond (is_mark radix b) (Some (base_of radix b)) None

unfoldable pub class_of : ℕ → ℕ → Class
class_of radix b =
    cond (is_sign b) Sign
    (cond (eqb b 46) Point
    (cond (eqb b 95) Underscore
    (cond (is_mark radix b) (Mark (base_of radix b))
    Other)))

-- a digit's value, by where the byte lies
module _ (b : ℕ) where
  pub digit_low : b < 48 → 16 ≡ digit_of b
  unfolding digit_of
  digit_low h = simp (lt-leb 48 b h, lt-leb 97 b (omega arith), lt-leb 65 b (omega arith))

  pub digit-ten : 48 ≤ b → b ≤ 57 → b - 48 ≡ digit_of b
  unfolding digit_of
  digit-ten h k = simp (le-leb 48 b h, le-leb b 57 k)

  pub digit-between : 57 < b → b < 65 → 16 ≡ digit_of b
  unfolding digit_of
  digit-between h k = simp (le-leb 48 b (omega arith), lt-leb b 57 h, lt-leb 97 b (omega arith), lt-leb 65 b k)

  pub digit-upper : 65 ≤ b → b ≤ 70 → b - 55 ≡ digit_of b
  unfolding digit_of
  digit-upper h k = simp (le-leb 48 b (omega arith), lt-leb b 57 (omega arith), lt-leb 97 b (omega arith), le-leb 65 b h, le-leb b 70 k)

  pub digit-middle : 70 < b → b < 97 → 16 ≡ digit_of b
  unfolding digit_of
  digit-middle h k = simp (le-leb 48 b (omega arith), lt-leb b 57 (omega arith), lt-leb 97 b k, le-leb 65 b (omega arith), lt-leb b 70 h)

  pub digit-lower : 97 ≤ b → b ≤ 102 → b - 87 ≡ digit_of b
  unfolding digit_of
  digit-lower h k = simp (le-leb 48 b (omega arith), lt-leb b 57 (omega arith), le-leb 97 b h, le-leb b 102 k)

  pub digit-high : 102 < b → 16 ≡ digit_of b
  unfolding digit_of
  digit-high h =
      simp (
        le-leb 48 b (omega arith),
        lt-leb b 57 (omega arith),
        le-leb 97 b (omega arith),
        lt-leb b 102 h,
        le-leb 65 b (omega arith),
        lt-leb b 70
            (omega arith),
      )

-- ---- a digit of a radix is no sign, no point, no `_` and no mark of that radix
pub record Plain (radix b : ℕ) : Type 0 where
  pub no_sign : is_sign b ≡ false
  pub no-point : eqb b 46 ≡ false
  pub no-under : eqb b 95 ≡ false
  pub no-mark : is_mark radix b ≡ false

-- the bytes that are digits of radix 16, and those of a radix up to 10
digit-range : (b : ℕ) → digit_of b < 16 → ((48 ≤ b) × (b ≤ 57)) ⊎ (((65 ≤ b) × (b ≤ 70)) ⊎ ((97 ≤ b) × (b ≤ 102)))
digit-range b h = low (dec_le 48 b)
  where
    high : Dec (b ≤ 102) → 97 ≤ b → ((48 ≤ b) × (b ≤ 57)) ⊎ (((65 ≤ b) × (b ≤ 70)) ⊎ ((97 ≤ b) × (b ≤ 102)))
    high (yes k) l = inr (inr (l, k))
    high (no k) l = absurd (omega (arith, digit-high b (omega arith)))

    lower : Dec (97 ≤ b) → 70 < b → ((48 ≤ b) × (b ≤ 57)) ⊎ (((65 ≤ b) × (b ≤ 70)) ⊎ ((97 ≤ b) × (b ≤ 102)))
    lower (yes l) k = high (dec_le b 102) l
    lower (no l) k = absurd (omega (arith, digit-middle b k (omega arith)))

    upper : Dec (65 ≤ b) → Dec (b ≤ 70) → 57 < b → ((48 ≤ b) × (b ≤ 57)) ⊎ (((65 ≤ b) × (b ≤ 70)) ⊎ ((97 ≤ b) × (b ≤ 102)))
    upper (yes l) (yes k) m = inr (inl (l, k))
    upper (yes l) (no k) m = lower (dec_le 97 b) (omega arith)
    upper (no l) k m = absurd (omega (arith, digit-between b m (omega arith)))

    ten : Dec (b ≤ 57) → 48 ≤ b → ((48 ≤ b) × (b ≤ 57)) ⊎ (((65 ≤ b) × (b ≤ 70)) ⊎ ((97 ≤ b) × (b ≤ 102)))
    ten (yes k) l = inl (l, k)
    ten (no k) l = upper (dec_le 65 b) (dec_le b 70) (omega arith)

    low : Dec (48 ≤ b) → ((48 ≤ b) × (b ≤ 57)) ⊎ (((65 ≤ b) × (b ≤ 70)) ⊎ ((97 ≤ b) × (b ≤ 102)))
    low (yes l) = ten (dec_le b 57) l
    low (no l) = absurd (omega (arith, digit_low b (omega arith)))

pub ten-range : (b : ℕ) → digit_of b < 10 → (48 ≤ b) × (b ≤ 57)
ten-range b h = pick (digit-range b (omega arith))
  where
    pick : ((48 ≤ b) × (b ≤ 57)) ⊎ (((65 ≤ b) × (b ≤ 70)) ⊎ ((97 ≤ b) × (b ≤ 102))) → (48 ≤ b) × (b ≤ 57)
    pick (inl r) = r
    pick (inr (inl r)) = absurd (omega (arith, digit-upper b r.0 r.1))
    pick (inr (inr r)) = absurd (omega (arith, digit-lower b r.0 r.1))

-- a byte apart from the marks and signs
plain_at : (radix b : ℕ) → (b ≡ 43 → ⊥) → (b ≡ 45 → ⊥) → (b ≡ 46 → ⊥) → (b ≡ 95 → ⊥) → is_mark radix b ≡ false → Plain radix b
plain_at radix b p n d u m =
    record {
      no_sign = simp (ne_eqb b 43 p, ne_eqb b 45 n);
      no-point = ne_eqb b 46 d;
      no-under = ne_eqb b 95 u;
      no-mark = m;
    }

-- no mark of any radix stands among `0` to `9`; in radix 16 the marks are `@`, `p` and `P`
unmarked : (radix b : ℕ) → (b ≡ 64 → ⊥) → (b ≡ 101 → ⊥) → (b ≡ 69 → ⊥) → (b ≡ 112 → ⊥) → (b ≡ 80 → ⊥) → is_mark radix b ≡ false
unfolding is_mark
unmarked radix b a e f p q = simp (ne_eqb b 64 a, ne_eqb b 101 e, ne_eqb b 69 f, ne_eqb b 112 p, ne_eqb b 80 q)

unmarked-hex : (b : ℕ) → (b ≡ 64 → ⊥) → (b ≡ 112 → ⊥) → (b ≡ 80 → ⊥) → is_mark 16 b ≡ false
unfolding is_mark
unmarked-hex b a p q = simp (ne_eqb b 64 a, ne_eqb b 112 p, ne_eqb b 80 q, and-false (eqb b 101 || eqb b 69))

radix-cases : (radix : ℕ) → is_radix radix ≡ true → (radix ≤ 10) ⊎ (radix ≡ 16)
unfolding is_radix
radix-cases radix h = go (eqb radix 2) (eqb radix 8) (eqb radix 10) (eqb radix 16) refl refl refl refl h
  where
    go : (a b c d : Bool) → eqb radix 2 ≡ a → eqb radix 8 ≡ b → eqb radix 10 ≡ c → eqb radix 16 ≡ d → (a || b || c || d) ≡ true → (radix ≤ 10) ⊎ (radix ≡ 16)
    go true b c d e f g h t = inl (omega (arith, eqb-true radix 2 e))
    go false true c d e f g h t = inl (omega (arith, eqb-true radix 8 f))
    go false false true d e f g h t = inl (omega (arith, eqb-true radix 10 g))
    go false false false true e f g h t = inr (eqb-true radix 16 h)
    go false false false false e f g h t = absurd (false≢true t)

-- a decimal digit, whatever the radix
pub ten-plain : (radix b : ℕ) → digit_of b < 10 → Plain radix b
ten-plain radix b h =
    let l = ten-range b h in
    plain_at radix b (λ e. omega arith) (λ e. omega arith) (λ e. omega arith) (λ e. omega arith)
    (unmarked radix b (λ e. omega arith) (λ e. omega arith) (λ e. omega arith) (λ e. omega arith) (λ e. omega arith))

pub digit-plain : (radix b : ℕ) → is_radix radix ≡ true → is_digit radix b ≡ true → Plain radix b
digit-plain radix b r h = by (radix-cases radix r)
  where
    below : digit_of b < radix
    below = ltb-true (digit_of b) radix h

    ten : (48 ≤ b) × (b ≤ 57) → Plain radix b
    ten l =
        plain_at radix b (λ e. omega arith) (λ e. omega arith) (λ e. omega arith) (λ e. omega arith)
        (unmarked radix b (λ e. omega arith) (λ e. omega arith) (λ e. omega arith) (λ e. omega arith) (λ e. omega arith))

    letter : radix ≡ 16 → ((65 ≤ b) × (b ≤ 70)) ⊎ ((97 ≤ b) × (b ≤ 102)) → Plain radix b
    letter e (inl l) =
        plain_at radix b (λ e. omega arith) (λ e. omega arith) (λ e. omega arith) (λ e. omega arith)
        (rw e (unmarked-hex b (λ e. omega arith) (λ e. omega arith) (λ e. omega arith)))
    letter e (inr l) =
        plain_at radix b (λ e. omega arith) (λ e. omega arith) (λ e. omega arith) (λ e. omega arith)
        (rw e (unmarked-hex b (λ e. omega arith) (λ e. omega arith) (λ e. omega arith)))

    by : (radix ≤ 10) ⊎ (radix ≡ 16) → Plain radix b
    by (inl l) = ten-plain radix b (omega (arith, below))
    by (inr e) = pick (digit-range b (omega (arith, below)))
      where
        pick : ((48 ≤ b) × (b ≤ 57)) ⊎ (((65 ≤ b) × (b ≤ 70)) ⊎ ((97 ≤ b) × (b ≤ 102))) → Plain radix b
        pick (inl l) = ten l
        pick (inr l) = letter e l
