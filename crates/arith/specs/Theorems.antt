-- What is proved of the meaning, without code: the floor and the quotient are what they are called, quotient and remainder fit
-- together, and sums, products and negation keep the laws of the integers. Assumes nothing.
use Rattle.std.specs.Prelude.{◌≡◌, refl, false, ℕ, zero, suc, ◌+◌, ◌*◌, ◌/◌, ◌%◌, ◌^◌, ◌≤◌, ◌<◌, ℤ, pos, negsuc, neg_ℤ, nat_abs, ◌+ℤ◌, ◌*ℤ◌, ◌≤ℤ◌}
use Rattle.std.proofs.Common.{sym, ap, ◌∙◌, arith, div-add-mod', mod-lt, mul-pos, le_antisymm, lt_of_lt_of_le, lt_of_le_of_lt, lt_of_mul-lt-mul_right, pow_pos}
use Rattle.std.proofs.Math.IntN.{*ℤ_comm, neg_ℤ-neg_ℤ}
use Rattle.std.specs.Int.Signed.{quot_z, rem_z, ≤ℤ_refl}
use Rattle.laws.specs.Diff.{dn, le_in, eq-in, add-out, up_neg, dn-neg, up-mul, dn-mul}
use Rattle.laws.specs.Bound.{abs_neg, abs-mul}
use Rattle.laws.specs.Floor.{IsFloor, floor, shr_z-floor}
use Rattle.laws.specs.Order.{+ℤ-mono}
use Rattle.laws.specs.Ring.{*ℤ-distribʳ, *ℤ-assoc}
use Rattle.laws.specs.Signed.{signed as kit}
use Rattle.format.specs.declared.Manner.{Manner}
use Rattle.format.specs.declared.Manner.TheVariants.{Saturating, Wrapping}
use Rattle.format.specs.Meaning.{Sign, fault_of, settle, done, highest, hold, wrap}
use Rattle.format.specs.Settle.{unless-none}
use Rattle.format.specs.Theorems.{InRange, Congruent, wrap-congruent}
use Rattle.format.proofs.Theorems.{sides, hold-in, settle-fits}
use Rattle.exact.specs.Theorems.{wrap-same}
use Rattle.arith.specs.Meaning.{add_of, neg_of}

-- ---- the product is rounded toward minus infinity
pub product-floor : (a b : ℤ) (f : ℕ) → IsFloor (a *ℤ b) (2 ^ f) (floor (a *ℤ b) (2 ^ f))
product-floor a b f = shr_z-floor (a *ℤ b) (2 ^ f) (pow_pos f)

-- ---- the quotient is rounded toward zero: |q d| <= |n| < (|q| + 1) |d|, and q has not the other sign than n d
pub record IsQuotient (n d q : ℤ) : Type 0 where
  pub low : nat_abs q * nat_abs d ≤ nat_abs n
  pub high : nat_abs n < (nat_abs q + 1) * nat_abs d
  pub sign : pos 0 ≤ℤ (q *ℤ (n *ℤ d))

abs-quot : (n d : ℤ) → nat_abs (quot_z n d) ≡ nat_abs n / nat_abs d
abs-quot (pos a) (pos b) = refl
abs-quot (pos a) (negsuc b) = abs_neg (a / suc b)
abs-quot (negsuc a) (pos b) = abs_neg (suc a / b)
abs-quot (negsuc a) (negsuc b) = refl

sign-quot : (n d : ℤ) → dn (quot_z n d *ℤ (n *ℤ d)) ≡ 0
sign-quot (pos a) (pos b) = refl
sign-quot (pos a) (negsuc b) = simp (dn-mul, up-mul, up_neg, dn-neg) (omega arith)
sign-quot (negsuc a) (pos b) = simp (dn-mul, up-mul, up_neg, dn-neg) (omega arith)
sign-quot (negsuc a) (negsuc b) = refl

pub quotient_is : (n d : ℤ) → 0 < nat_abs d → IsQuotient n d (quot_z n d)
quotient_is n d h =
    let m = nat_abs n in
    let b = nat_abs d in
    let e = abs-quot n d in
    let whole = div-add-mod' m b in
    record {
      low = rw e (omega (arith, whole));
      high = rw e (omega (arith, whole, mod-lt m h));
      sign = le_in (pos 0) (quot_z n d *ℤ (n *ℤ d)) (omega (arith, sign-quot n d));
    }

-- there is one: the bounds settle its size, and the sign which of the two it is
below : {n d p q : ℤ} → IsQuotient n d p → IsQuotient n d q → nat_abs p ≤ nat_abs q
below {n} {d} {p} {q} a b = let l : nat_abs p < nat_abs q + 1 = lt_of_mul-lt-mul_right (nat_abs d) (lt_of_le_of_lt a.low b.high) in omega arith

apart : {n d q : ℤ} → IsQuotient n d q → 0 < nat_abs q → 0 < nat_abs (n *ℤ d)
apart {n} {d} {q} a h = rw (abs-mul n d) (mul-pos size some)
  where
    some : 0 < nat_abs d
    some = go (nat_abs d) a.high
      where
        go : (m : ℕ) → nat_abs n < (nat_abs q + 1) * m → 0 < m
        go zero l = absurd (omega arith)
        go (suc m) l = omega arith

    size : 0 < nat_abs n
    size = lt_of_lt_of_le (mul-pos h some) a.low

pub quotient-unique : (n d p q : ℤ) → IsQuotient n d p → IsQuotient n d q → p ≡ q
quotient-unique n d p q a b = go p q (le_antisymm (below a b) (below b a)) a.sign b.sign (λ h. apart a h)
  where
    -- p and q are of one size: were one of them above zero and the other below, n d would be 0
    clash : (z : ℤ) (m k : ℕ) → m ≡ suc k → pos 0 ≤ℤ (pos m *ℤ z) → pos 0 ≤ℤ (negsuc k *ℤ z) → 0 < nat_abs z → ⊥
    clash (pos zero) m k e h l s = omega arith
    clash (pos (suc z)) m k e h l s = omega (kit, up-mul (negsuc k) (pos (suc z)), dn-mul (negsuc k) (pos (suc z)))
    clash (negsuc z) zero k e h l s = omega arith
    clash (negsuc z) (suc m) k e h l s = omega (kit, up-mul (pos (suc m)) (negsuc z), dn-mul (pos (suc m)) (negsuc z))

    go : (p q : ℤ) → nat_abs p ≡ nat_abs q → pos 0 ≤ℤ (p *ℤ (n *ℤ d)) → pos 0 ≤ℤ (q *ℤ (n *ℤ d)) → (0 < nat_abs p → 0 < nat_abs (n *ℤ d)) → p ≡ q
    go (pos m) (pos k) e h l s = ap pos e
    go (pos m) (negsuc k) e h l s = absurd (clash (n *ℤ d) m k e h l (s (omega arith)))
    go (negsuc m) (pos k) e h l s = absurd (clash (n *ℤ d) k m (sym e) l h (s (omega arith)))
    go (negsuc m) (negsuc k) e h l s = ap negsuc (omega arith)

-- ---- at F = 0 quotient and remainder fit together, and the remainder is smaller than the divisor
turned : (m b : ℕ) → neg_ℤ (pos m) *ℤ negsuc b ≡ pos (m * suc b)
turned m b = eq-in (neg_ℤ (pos m) *ℤ negsuc b) (pos (m * suc b)) (simp (up-mul, dn-mul, up_neg, dn-neg) (omega arith))

minus : (m n : ℕ) → neg_ℤ (pos m) +ℤ neg_ℤ (pos n) ≡ neg_ℤ (pos (m + n))
minus m n =
    omega (
      kit,
      add-out (neg_ℤ (pos m)) (neg_ℤ (pos n)),
      up_neg (pos m),
      dn-neg (pos m),
      up_neg (pos n),
      dn-neg (pos n),
      up_neg (pos (m + n)),
      dn-neg
          (pos (m + n)),
    )

scaled : (m b : ℕ) → neg_ℤ (pos m) *ℤ pos b ≡ neg_ℤ (pos (m * b))
scaled m b = eq-in (neg_ℤ (pos m) *ℤ pos b) (neg_ℤ (pos (m * b))) (simp (up-mul, dn-mul, up_neg, dn-neg) (omega arith))

together : (a b : ℤ) → quot_z a b *ℤ b +ℤ rem_z a b ≡ a
together (pos a) (pos b) = ap pos (div-add-mod' a b)
together (pos a) (negsuc b) = ap (λ (z : ℤ). z +ℤ pos (a % suc b)) (turned (a / suc b) b) ∙ ap pos (div-add-mod' a (suc b))
together (negsuc a) (pos b) =
    ap (λ (z : ℤ). z +ℤ neg_ℤ (pos (suc a % b))) (scaled (suc a / b) b) ∙ minus (suc a / b * b) (suc a % b)
    ∙ ap (λ (n : ℕ). neg_ℤ (pos n)) (div-add-mod' (suc a) b)
together (negsuc a) (negsuc b) =
    ap (λ (z : ℤ). z +ℤ neg_ℤ (pos (suc a % suc b)))
    (eq-in (pos (suc a / suc b) *ℤ negsuc b) (neg_ℤ (pos (suc a / suc b * suc b))) (simp (up-mul, dn-mul, up_neg, dn-neg) (omega arith)))
    ∙ minus (suc a / suc b * suc b) (suc a % suc b)
    ∙ ap (λ (n : ℕ). neg_ℤ (pos n)) (div-add-mod' (suc a) (suc b))

pub quotient-remainder : (a b : ℤ) → quot_z (a *ℤ pos (2 ^ 0)) b *ℤ b +ℤ rem_z a b ≡ a
quotient-remainder a b =
    let one : a *ℤ pos 1 ≡ a = omega (kit, up-mul a (pos 1), dn-mul a (pos 1)) in
    ap (λ (z : ℤ). quot_z z b *ℤ b +ℤ rem_z a b) one ∙ together a b

pub remainder-below : (a b : ℤ) → 0 < nat_abs b → nat_abs (rem_z a b) < nat_abs b
remainder-below (pos a) b h = mod-lt a h
remainder-below (negsuc a) b h = rw (abs_neg (suc a % nat_abs b)) (mod-lt (suc a) h)

-- ---- negation twice is the identity, where both fit
pub negation-twice : (k : Manner) (s : Sign) (w f : ℕ) (a : ℤ) → 0 < w → fault_of w f ≡ 0 → InRange s w a → InRange s w (neg_ℤ a)
    → (neg_of k s w f a ≡ done (neg_ℤ a) false) × (neg_of k s w f (neg_ℤ a) ≡ done a false)
negation-twice k s w f a h e r n = (
  unless-none (fault_of w f) (settle k s w (neg_ℤ a)) e ∙ settle-fits s w (neg_ℤ a) k h n,
  unless-none (fault_of w f) (settle k s w (neg_ℤ (neg_ℤ a))) e ∙ ap (settle k s w) (neg_ℤ-neg_ℤ a) ∙ settle-fits s w a k h r,
)

-- ---- what the manners make of the sum: the laws below speak of `wrap` and `hold`
module _ (s : Sign) (w f : ℕ) (free : fault_of w f ≡ 0) (a b : ℤ) where
  pub sum-wrapping : add_of Wrapping s w f a b ≡ done (wrap s w (a +ℤ b)) false
  unfolding settle
  sum-wrapping = unless-none (fault_of w f) (done (wrap s w (a +ℤ b)) false) free

  pub sum-saturating : add_of Saturating s w f a b ≡ done (hold s w (a +ℤ b)) false
  unfolding settle
  sum-saturating = unless-none (fault_of w f) (done (hold s w (a +ℤ b)) false) free

-- ---- wrapping: only the residues modulo 2^W of the operands count
pub sum-congruent : (m : ℕ) {a b x y : ℤ} → Congruent m a x → Congruent m b y → Congruent m (a +ℤ b) (x +ℤ y)
sum-congruent m {a} {b} {x} {y} c d =
    let k = c.turns *ℤ pos m in
    let l = d.turns *ℤ pos m in
    record {
      turns = c.turns +ℤ d.turns;
      differ =
          omega (
            kit,
            c.differ,
            d.differ,
            *ℤ-distribʳ c.turns d.turns (pos m),
            add-out a b,
            add-out x y,
            add-out x k,
            add-out y l,
            add-out k l,
            add-out
                (x +ℤ y) ((c.turns +ℤ d.turns) *ℤ pos m),
          );
    }

-- a factor at a time: (x + k m) b = x b + (k b) m
factor-congruent : (m : ℕ) (b : ℤ) {a x : ℤ} → Congruent m a x → Congruent m (a *ℤ b) (x *ℤ b)
factor-congruent m b {a} {x} c =
    let k = c.turns in
    record {
      turns = k *ℤ b;
      differ = ap (λ (z : ℤ). z *ℤ b) c.differ
          ∙ *ℤ-distribʳ x (k *ℤ pos m) b
          ∙ ap (λ (z : ℤ). x *ℤ b +ℤ z) (*ℤ-assoc k (pos m) b ∙ ap (λ (z : ℤ). k *ℤ z) (*ℤ_comm (pos m) b) ∙ sym (*ℤ-assoc k b (pos m)));
    }

congruent-trans : (m : ℕ) {a b c : ℤ} → Congruent m a b → Congruent m b c → Congruent m a c
congruent-trans m {a} {b} {c} p q =
    let k = p.turns *ℤ pos m in
    let l = q.turns *ℤ pos m in
    record {
      turns = q.turns +ℤ p.turns;
      differ =
          omega (
            kit,
            p.differ,
            q.differ,
            *ℤ-distribʳ q.turns p.turns (pos m),
            add-out b k,
            add-out c l,
            add-out l k,
            add-out c
                ((q.turns +ℤ p.turns) *ℤ pos m),
          );
    }

pub product-congruent : (m : ℕ) {a b x y : ℤ} → Congruent m a x → Congruent m b y → Congruent m (a *ℤ b) (x *ℤ y)
product-congruent m {a} {b} {x} {y} c d =
    let e = factor-congruent m x d in
    let turned : Congruent m (x *ℤ b) (x *ℤ y) = record {
      turns = e.turns;
      differ = *ℤ_comm x b ∙ e.differ ∙ ap (λ (z : ℤ). z +ℤ e.turns *ℤ pos m) (*ℤ_comm y x);
    } in
    congruent-trans m (factor-congruent m b c) turned

-- the wrapping sum, and the wrapping product at F = 0, are those of the integers modulo 2^W: wrapping the operands first changes nothing
module _ (s : Sign) (w : ℕ) (h : 0 < w) (a b : ℤ) where
  pub sum_wraps : wrap s w (a +ℤ b) ≡ wrap s w (wrap s w a +ℤ wrap s w b)
  sum_wraps = wrap-same s w h (sum-congruent (2 ^ w) (wrap-congruent s w h a) (wrap-congruent s w h b))

  pub product-wraps : wrap s w (a *ℤ b) ≡ wrap s w (wrap s w a *ℤ wrap s w b)
  product-wraps = wrap-same s w h (product-congruent (2 ^ w) (wrap-congruent s w h a) (wrap-congruent s w h b))

-- ---- saturating is monotone in each operand of the sum
pub hold-mono : (s : Sign) (w : ℕ) {x y : ℤ} → x ≤ℤ y → hold s w x ≤ℤ hold s w y
hold-mono s w {x} {y} h =
    sides s w x (λ (z : ℤ). z ≤ℤ hold s w y)
    (λ l. (hold-in s w y).low)
    (λ l. sides s w y (λ (z : ℤ). highest s w ≤ℤ z) (λ m. omega (kit, (hold-in s w x).low, (hold-in s w x).high)) (λ m. ≤ℤ_refl (highest s w)) (λ r. omega kit))
    (λ r. sides s w y (λ (z : ℤ). x ≤ℤ z) (λ m. omega (kit, r.low)) (λ m. r.high) (λ m. h))

pub sum_mono : (s : Sign) (w : ℕ) {a b c d : ℤ} → a ≤ℤ c → b ≤ℤ d → hold s w (a +ℤ b) ≤ℤ hold s w (c +ℤ d)
sum_mono s w h k = hold-mono s w (+ℤ-mono h k)
