-- The raw of a number that is written: it depends on the fraction alone, so not on where the point stands, and not on zeros at the end; and
-- how far the exponent must go for a number to be past every format, or nothing. Assumes nothing.
use Rattle.std.specs.Prelude.{◌≡◌, ◌⊎◌, Bool, [], ◌∷◌, ◌++◌, ℕ, zero, suc, ◌+◌, ◌-◌, ◌*◌, ◌^◌, ◌≤◌, ◌<◌, pos, ◌+ℤ◌, ◌*ℤ◌}
use Rattle.std.proofs.Common.{sym, ap, ◌∙◌, inl, inr, mul-pos, mul-le-mul, pow-suc, mul-le-mul_left, mul-le-mul_right, add-one, arith, pow_pos, pow_mono, pow-add}
use Rattle.std.proofs.Math.Bool.{true, false, cond}
use Rattle.std.proofs.Math.Nat.{one-le-pow, pow-le-pow_left, pow-zero}
use Rattle.laws.specs.Diff.{add-out}
use Rattle.laws.specs.Order.{mul-out}
use Rattle.laws.specs.Signed.{signed as kit}
use Rattle.laws.specs.Nearest.{nearest_even, nearest-same, nearest-none, nearest-least, nearest-exact}
use Rattle.format.specs.declared.Manner.TheVariants.{Strict, Wrapping}
use Rattle.format.specs.Meaning.{Sign, wrap, settle, with_sign, done, refused}
use Rattle.format.specs.Theorems.{lowest-out, highest-out, wrap-only}
use Rattle.format.specs.Place.{sign-out}
use Rattle.format.proofs.Far.{far-unfit}
use Rattle.grammar.specs.Meaning.{Written, num, den, raw_of, with_digit}
use Rattle.grammar.specs.Naturals.{nat_of, nat_from-snoc}

-- ---- the fraction decides
pub den_pos : (radix : ℕ) (x : Written) → 0 < radix → 0 < x.base → 0 < den radix x
unfolding den
den_pos radix x r b = mul-pos (one-le-pow x.after radix r) (go x.down)
  where
    go : (t : Bool) → 0 < cond t (x.base ^ x.exp) 1
    go true = one-le-pow x.exp x.base b
    go false = omega arith

pub same-fraction : (r₁ r₂ f : ℕ) (x y : Written) → 0 < den r₁ x → 0 < den r₂ y → num r₁ x * den r₂ y ≡ num r₂ y * den r₁ x → raw_of r₁ f x ≡ raw_of r₂ f y
unfolding raw_of
same-fraction r₁ r₂ f x y g h e = nearest-same (num r₁ x * 2 ^ f) (den r₁ x) (num r₂ y * 2 ^ f) (den r₂ y) g h (omega (arith, ap (λ (m : ℕ). m * 2 ^ f) e))

-- ---- a zero more after the point: the digits and radix^after are both multiplied by the radix
pub zero_more : (radix f : ℕ) (x : Written) → 0 < radix → 0 < x.base → raw_of radix f (with_digit x 0 1) ≡ raw_of radix f x
unfolding num den
zero_more radix f x r b =
    let y = with_digit x 0 1 in
    let up = cond x.down 1 (x.base ^ x.exp) in
    let dn = cond x.down (x.base ^ x.exp) 1 in
    let n = nat_of radix x.digits in
    let digits : nat_of radix (x.digits ++ (0 ∷ [])) ≡ n * radix + 0 = nat_from-snoc radix x.digits 0 0 in
    let places : radix ^ (x.after + 1) ≡ radix ^ x.after * radix = ap (λ (k : ℕ). radix ^ k) (add-one x.after) ∙ pow-suc radix x.after in
    same-fraction radix radix f y x (den_pos radix y r b) (den_pos radix x r b) (rw (digits, places) (omega arith))

-- ---- where the point stands. The exponent scales by the radix, or there is none
abbrev pub ByRadix : ℕ → Written → Type 0
ByRadix radix x = (x.base ≡ radix) ⊎ (x.exp ≡ 0)

abbrev pub upward : Written → ℕ
upward x = cond x.down 0 x.exp

abbrev pub downward : Written → ℕ
downward x = cond x.down x.exp 0

module _ (radix : ℕ) (x : Written) where
  power : ByRadix radix x → x.base ^ x.exp ≡ radix ^ x.exp
  power (inl e) = rw e
  power (inr e) = rw (e, pow-zero x.base, pow-zero radix)

  num-by : ByRadix radix x → num radix x ≡ nat_of radix x.digits * radix ^ upward x
  unfolding num
  num-by h = go x.down
    where
      go : (t : Bool) → nat_of radix x.digits * cond t 1 (x.base ^ x.exp) ≡ nat_of radix x.digits * radix ^ cond t 0 x.exp
      go true = rw pow-zero
      go false = rw (power h)

  den-by : ByRadix radix x → den radix x ≡ radix ^ (x.after + downward x)
  unfolding den
  den-by h = go x.down
    where
      go : (t : Bool) → radix ^ x.after * cond t (x.base ^ x.exp) 1 ≡ radix ^ (x.after + cond t x.exp 0)
      go true = rw (power h, pow-add)
      go false = rw (pow-add, pow-zero)

pub same_place : (radix f : ℕ) (x y : Written) → 0 < radix → ByRadix radix x → ByRadix radix y → x.digits ≡ y.digits
    → x.after + downward x + upward y ≡ y.after + downward y + upward x → raw_of radix f x ≡ raw_of radix f y
same_place radix f x y r h k e p =
    let n = nat_of radix x.digits in
    let same : nat_of radix x.digits ≡ nat_of radix y.digits = ap (nat_of radix) e in
    let powers : radix ^ upward x * radix ^ (y.after + downward y) ≡ radix ^ upward y * radix ^ (x.after + downward x) =
    sym (pow-add radix (upward x) (y.after + downward y)) ∙ ap (λ (i : ℕ). radix ^ i) (omega arith)
    ∙ pow-add radix (upward y) (x.after + downward x) in
    same-fraction radix radix f x y
    (rw (den-by radix x h) (one-le-pow _ radix r))
    (rw (den-by radix y k) (one-le-pow _ radix r))
    (rw (num-by radix x h, num-by radix y k, den-by radix x h, den-by radix y k, ← same) (omega (arith, ap (λ (m : ℕ). n * m) powers)))

-- ---- nothing is written
pub nothing_written : (radix f : ℕ) (x : Written) → 0 < den radix x → nat_of radix x.digits ≡ 0 → raw_of radix f x ≡ 0
unfolding raw_of num
nothing_written radix f x h e = rw e (nearest-none _ _ (omega arith))

-- ---- below half a step it is 0
pub below_half : (radix f : ℕ) (x : Written) → num radix x * 2 ^ f * 2 < den radix x → raw_of radix f x ≡ 0
unfolding raw_of
below_half radix f x h = nearest-none (num radix x * 2 ^ f) (den radix x) h

-- so it is if the exponent goes down by more bits than the digits and the step have
pub huge-under : (radix f n : ℕ) (x : Written) → 0 < radix → 2 ≤ x.base → x.down ≡ true
    → nat_of radix x.digits < 2 ^ n → n + f + 1 ≤ x.exp → raw_of radix f x ≡ 0
unfolding num den
huge-under radix f n x r b t h l =
    let places : 1 ≤ radix ^ x.after = one-le-pow x.after radix r in
    let scale : 2 ^ (n + f + 1) ≤ 2 ^ x.exp = pow_mono l in
    let base : 2 ^ x.exp ≤ x.base ^ x.exp = pow-le-pow_left b x.exp in
    let bits : 2 ^ (n + f + 1) ≡ 2 ^ n * 2 ^ f * 2 = pow-add 2 (n + f) 1 ∙ ap (λ (m : ℕ). m * 2) (pow-add 2 n f) in
    let less : suc (nat_of radix x.digits) * 2 ^ f ≤ 2 ^ n * 2 ^ f = mul-le-mul_right (2 ^ f) h in
    let far : 1 * x.base ^ x.exp ≤ radix ^ x.after * x.base ^ x.exp = mul-le-mul_right (x.base ^ x.exp) places in
    below_half radix f x (rw t (omega (arith, pow_pos f)))

-- ---- past every format: strict refuses with 10
pub past_word : (s : Sign) (w radix f : ℕ) (x : Written) → w ≤ 64 → 0 < den radix x → 2 ^ 64 * den radix x ≤ num radix x * 2 ^ f
    → settle Strict s w (with_sign x.neg (raw_of radix f x)) ≡ refused 10
unfolding raw_of settle
past_word s w radix f x h d l =
    let m = nearest_even (num radix x * 2 ^ f) (den radix x) in
    let far : 2 ^ 64 ≤ m = nearest-least (num radix x * 2 ^ f) (den radix x) (2 ^ 64) d l in
    rw (far-unfit s w x.neg m h far)

-- so it is if anything is written and the exponent goes up by 64 places more than there are after the point
pub huge-over : (s : Sign) (w radix f : ℕ) (x : Written) → w ≤ 64 → 2 ≤ radix → x.base ≡ radix → x.down ≡ false
    → 0 < nat_of radix x.digits → x.after + 64 ≤ x.exp → settle Strict s w (with_sign x.neg (raw_of radix f x)) ≡ refused 10
unfolding num den
huge-over s w radix f x h r b t n l =
    let places = radix ^ x.after in
    let rest = x.exp - x.after in
    let split : radix ^ x.exp ≡ places * radix ^ rest = ap (λ (k : ℕ). radix ^ k) (omega arith) ∙ pow-add radix x.after rest in
    let wide : 2 ^ 64 ≤ 2 ^ rest = pow_mono {i = 64} {j = rest} (omega arith) in
    let base : 2 ^ rest ≤ radix ^ rest = pow-le-pow_left r rest in
    let far : places * 2 ^ 64 ≤ places * radix ^ rest = mul-le-mul {n₁ = places} (omega arith) (omega arith) in
    let some : 1 * radix ^ x.exp ≤ nat_of radix x.digits * radix ^ x.exp = mul-le-mul_right (radix ^ x.exp) n in
    let step : nat_of radix x.digits * radix ^ x.exp * 1 ≤ nat_of radix x.digits * radix ^ x.exp * 2 ^ f = mul-le-mul_left
    (nat_of radix x.digits * radix ^ x.exp) (pow_pos f) in
    past_word s w radix f x h (den_pos radix x (omega arith) (omega arith)) (rw (t, b) (omega arith))

-- and wrapping gives 0, since every radix is even
even_power : (h k : ℕ) → (h * 2) ^ k ≡ h ^ k * 2 ^ k
even_power h zero = simp pow-zero
even_power h (suc k) = simp (pow-suc, even_power h k) (omega arith)

whole-turns : (s : Sign) (w c : ℕ) (neg : Bool) → 0 < w → wrap s w (with_sign neg (c * 2 ^ w)) ≡ pos 0
whole-turns s w c neg h =
    sym (wrap-only s w h (with_sign neg (c * 2 ^ w)) (record { low = omega (kit, lowest-out s w); high = omega (kit, highest-out s w) }) (record {
      turns = with_sign neg c;
      differ = go neg;
    }))
  where
    go : (neg : Bool) → with_sign neg (c * 2 ^ w) ≡ pos 0 +ℤ with_sign neg c *ℤ pos (2 ^ w)
    go true =
        let z = with_sign true c in
        let o = sign-out true c in
        omega (
          kit,
          sign-out true (c * 2 ^ w),
          mul-out z (2 ^ w),
          add-out (pos 0) (z *ℤ pos (2 ^ w)),
          ap (λ (v : ℕ). v * 2 ^ w) o.0,
          ap
              (λ (v : ℕ). v * 2 ^ w) o.1,
        )
    go false =
        let z = with_sign false c in
        let o = sign-out false c in
        omega (
          kit,
          sign-out false (c * 2 ^ w),
          mul-out z (2 ^ w),
          add-out (pos 0) (z *ℤ pos (2 ^ w)),
          ap (λ (v : ℕ). v * 2 ^ w) o.0,
          ap
              (λ (v : ℕ). v * 2 ^ w) o.1,
        )

pub huge-wraps : (s : Sign) (w radix h f : ℕ) (x : Written) → 0 < w → 0 < h → radix ≡ h * 2 → x.base ≡ radix → x.down ≡ false
    → x.after + w ≤ x.exp → settle Wrapping s w (with_sign x.neg (raw_of radix f x)) ≡ done (pos 0) false
unfolding num den raw_of settle
huge-wraps s w radix h f x some k e b t l =
    let places = radix ^ x.after in
    let rest = x.exp - x.after - w in
    let c = nat_of radix x.digits * h ^ w * radix ^ rest * 2 ^ f in
    let split : radix ^ x.exp ≡ places * radix ^ w * radix ^ rest =
    ap (λ (i : ℕ). radix ^ i) (omega arith) ∙ pow-add radix (x.after + w) rest ∙ ap (λ (m : ℕ). m * radix ^ rest) (pow-add radix x.after w) in
    let turns : radix ^ w ≡ h ^ w * 2 ^ w = ap (λ (r : ℕ). r ^ w) e ∙ even_power h w in
    let whole : nat_of radix x.digits * radix ^ x.exp * 2 ^ f ≡ c * 2 ^ w * (places * 1) = rw (split, turns) (omega arith) in
    let exact : nearest_even (nat_of radix x.digits * radix ^ x.exp * 2 ^ f) (places * 1) ≡ c * 2 ^ w =
    ap (λ (n : ℕ). nearest_even n (places * 1)) whole
    ∙ nearest-exact (c * 2 ^ w) (places * 1) (mul-pos (one-le-pow x.after radix (omega arith)) (omega arith)) in
    rw (t, b, exact, whole-turns s w c x.neg some)
