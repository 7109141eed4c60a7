-- The texts of document 01's form, and the numbers that they write: "`-` if negative, integer digits without leading zeros (a lone `0`
-- for none), then, if the fraction is not 0, a point and its digits with no trailing zero". The text of a raw has this form, its
-- digits write the number, and no other text of this form does. Assumes nothing.
use Rattle.std.specs.Prelude.{◌≡◌, Bool, cond}
use Rattle.std.proofs.Math.Path.{refl, ap}
use Rattle.std.proofs.Common.{sym, ap₂, ◌∙◌, pow-suc, le_of_mul-le-mul_right, lt_of_mul-lt-mul_right, mul-lt-mul_of_pos_right, mul-le-mul_right, pos_of_ne-zero, arith, lit<, pow_pos}
use Rattle.std.proofs.Math.Bool.{true, false}
use mathlib.Core.List.{List, [], ◌∷◌, ◌++◌, map, append_assoc, append-nil}
use Prim.Native.Nat.{ℕ, zero, suc, ◌+◌, ◌*◌, ◌/◌, ◌%◌, ◌^◌, ◌≤◌, ◌<◌}
use Rattle.std.proofs.Math.Nat.{pow-zero, div-add-mod', mod-lt, div-eq_of_lt-le, mul-pos, one-le-pow}
use Rattle.std.proofs.Math.Dec.{eqb}
use Rattle.std.proofs.Math.ListN.{length}
use borrow.Author.Tests.{eqb-true, eqb-false}
use Rattle.grammar.specs.Meaning.{nat_from}
use Rattle.grammar.specs.Naturals.{nat_of, nat_from-snoc, nat_of-cons, nat_of-append}
use Rattle.decimal.specs.Meaning.{byte_of, whole_digits, fraction_by, fraction_digits, sign_text, whole_text, fraction_text, text_of}
use Rattle.decimal.specs.Layout.{Ends}
use Rattle.decimal.specs.Digits.{whole-last, whole-more, whole-ind, fraction-none, fraction-more, ends-start, ends_next, ends-none}

-- ---- the form
pub data Digits : List ℕ → Type 0 where
  none : Digits []
  more : {d : ℕ} {ds : List ℕ} → d < 10 → Digits ds → Digits (d ∷ ds)

-- no leading zero: one digit, or a first one that is not 0
pub data Leads : List ℕ → Type 0 where
  lone : {d : ℕ} → Leads (d ∷ [])
  first : {d e : ℕ} {ds : List ℕ} → 0 < d → Leads (d ∷ e ∷ ds)

-- no trailing zero: no digit, or a last one that is not 0
pub data Trails : List ℕ → Type 0 where
  empty : Trails []
  last : {d : ℕ} → 0 < d → Trails (d ∷ [])
  before : {d e : ℕ} {ds : List ℕ} → Trails (e ∷ ds) → Trails (d ∷ e ∷ ds)

unfoldable pub pointed : List ℕ → List ℕ
pointed [] = []
pointed (d ∷ ds) = 46 ∷ map byte_of (d ∷ ds)

unfoldable pub form_text : Bool → List ℕ → List ℕ → List ℕ
form_text neg ws fs = sign_text neg ++ (map byte_of ws ++ pointed fs)

-- the digits of a text of the form; one with `-` is negative, so it is not 0
pub record Form (neg : Bool) (ws fs : List ℕ) : Type 0 where
  pub whole-digits : Digits ws
  pub fraction-digits : Digits fs
  pub leads : Leads ws
  pub trails : Trails fs
  pub negative : neg ≡ true → 0 < nat_of 10 (ws ++ fs)

-- the number that the digits write is m / 2^F exactly: ws.fs, over 10 for each digit after the point
abbrev pub Writes : List ℕ → List ℕ → ℕ → ℕ → Type 0
Writes ws fs m f = nat_of 10 (ws ++ fs) * 2 ^ f ≡ m * 10 ^ length fs

-- ---- how large a number of digits is
pub nat-below : {ds : List ℕ} → Digits ds → nat_of 10 ds < 10 ^ length ds
unfolding nat_from
nat-below none = omega (arith, pow-zero 10)
nat-below {ds = d ∷ ds} (more h r) =
    let low = nat-below r in
    let most = mul-le-mul_right (10 ^ length ds) h in
    omega (arith, nat_of-cons 10 d ds, pow-suc 10 (length ds), most)

-- x / m is d, and what is left, over m, is v / p
quotient : (x d m p v : ℕ) → 0 < m → 0 < p → v < p → x * p ≡ d * m * p + v * m → (x / m ≡ d) × (x % m * p ≡ v * m)
quotient x d m p v hm hp hv e =
    let low : d * m ≤ x = le_of_mul-le-mul_right {k = p} (omega arith) hp in
    let part : v * m < p * m = mul-lt-mul_of_pos_right hv hm in
    let high : x < (d + 1) * m = lt_of_mul-lt-mul_right p (omega arith) in
    let q : x / m ≡ d = div-eq_of_lt-le m low high in
    let cut : d * m + x % m ≡ x = ap (λ (k : ℕ). k * m + x % m) (sym q) ∙ div-add-mod' x m in
    let times : d * m * p + x % m * p ≡ x * p = omega (arith, ap (λ (k : ℕ). k * p) cut) in
    (q, omega arith)

-- ---- the whole part
whole-nat : (n : ℕ) → nat_of 10 (whole_digits n) ≡ n
unfolding nat_from
whole-nat =
    whole-ind (λ n. nat_of 10 (whole_digits n) ≡ n)
    (λ n h. ap (nat_of 10) (whole-last n h) ∙ omega arith)
    (λ n h p. ap (nat_of 10) (whole-more n h) ∙ nat_from-snoc 10 (whole_digits (n / 10)) (n % 10) 0 ∙ ap (λ (v : ℕ). v * 10 + n % 10) p ∙ omega arith)

digits-snoc : {ds : List ℕ} {d : ℕ} → Digits ds → d < 10 → Digits (ds ++ (d ∷ []))
digits-snoc none h = more h none
digits-snoc (more l r) h = more l (digits-snoc r h)

whole-digits-of : (n : ℕ) → Digits (whole_digits n)
whole-digits-of =
    whole-ind (λ n. Digits (whole_digits n)) (λ n h. rw (whole-last n h) (more h none)) (λ n h p. rw (whole-more n h) (digits-snoc p (omega arith)))

-- what starts with a digit that is not 0 goes on with anything
data Starts : List ℕ → Type 0 where
  starts : {d : ℕ} {ds : List ℕ} → 0 < d → Starts (d ∷ ds)

starts-snoc : {ds : List ℕ} (d : ℕ) → Starts ds → Starts (ds ++ (d ∷ []))
starts-snoc d (starts h) = starts h

starts-leads : {ds : List ℕ} → Starts ds → Leads ds
starts-leads {ds = []} x' = elim x' [ ]
starts-leads {ds = d ∷ []} (starts h) = lone
starts-leads {ds = d ∷ e ∷ ds} (starts h) = first h

whole-starts : (n : ℕ) → 0 < n → Starts (whole_digits n)
whole-starts =
    whole-ind (λ n. 0 < n → Starts (whole_digits n)) (λ n h s. rw (whole-last n h) (starts s))
    (λ n h p s. rw (whole-more n h) (starts-snoc (n % 10) (p (omega arith))))

whole-leads : (n : ℕ) → Leads (whole_digits n)
whole-leads zero = rw (whole-last 0 (lit< tt)) lone
whole-leads (suc n) = starts-leads (whole-starts (suc n) (omega arith))

-- digits after a number that is not 0
whole-on : (ds : List ℕ) (n : ℕ) → 0 < n → Digits ds → whole_digits (nat_from 10 ds n) ≡ whole_digits n ++ ds
unfolding nat_from
whole-on [] n h none = sym (append-nil (whole_digits n))
whole-on (d ∷ ds) n h (more l r) =
    let tens : (n * 10 + d) / 10 ≡ n = omega arith in
    let ones : (n * 10 + d) % 10 ≡ d = omega arith in
    whole-on ds (n * 10 + d) (omega arith) r
    ∙ ap (λ (s : List ℕ). s ++ ds) (whole-more (n * 10 + d) (omega arith) ∙ ap₂ (λ (a b : ℕ). whole_digits a ++ (b ∷ [])) tens ones)
    ∙ append_assoc (whole_digits n) (d ∷ []) ds

whole-only : {ws : List ℕ} → Leads ws → Digits ws → whole_digits (nat_of 10 ws) ≡ ws
unfolding nat_from
whole-only (lone {d}) (more h r) = let e : 0 * 10 + d ≡ d = omega arith in ap whole_digits e ∙ whole-last d h
whole-only (first {d} {e} {ds} p) (more h r) =
    let s : 0 * 10 + d ≡ d = omega arith in
    ap (λ (v : ℕ). whole_digits (nat_from 10 (e ∷ ds) v)) s ∙ whole-on (e ∷ ds) d p r ∙ ap (λ (l : List ℕ). l ++ (e ∷ ds)) (whole-last d h)

-- ---- the fraction
trails-some : {d : ℕ} {ds : List ℕ} → Trails (d ∷ ds) → 0 < nat_of 10 (d ∷ ds)
unfolding nat_from
trails-some (last h) = omega arith
trails-some {d} (before {e = e} {ds = ds} t) = omega (arith, nat_of-cons 10 d (e ∷ ds), trails-some t)

trails-rest : {d : ℕ} {ds : List ℕ} → Trails (d ∷ ds) → Trails ds
trails-rest (last h) = empty
trails-rest (before t) = t

module _ (m : ℕ) (pos-m : 0 < m) where
  below-ten : (n : ℕ) → n < m → n * 10 / m < 10
  below-ten n h = div_below (n * 10) 10 (omega arith)
    where
      div_below : (x k : ℕ) → x < k * m → x / m < k
      div_below x k l = lt_of_mul-lt-mul_right m (omega (arith, div-add-mod' x m))

  fraction-digits-of : (k n : ℕ) → n < m → Digits (fraction_by m k n)
  unfolding fraction_by
  fraction-digits-of zero n h = none
  fraction-digits-of (suc k) n h = go (eqb n 0) (fraction-digits-of k (n * 10 % m) (mod-lt (n * 10) pos-m))
    where
      go : (t : Bool) → Digits (fraction_by m k (n * 10 % m)) → Digits (cond t [] (n * 10 / m ∷ fraction_by m k (n * 10 % m)))
      go true r = none
      go false r = more (below-ten n h) r

  fraction-nat : (k n : ℕ) → n < m → Ends k m n → nat_of 10 (fraction_by m k n) * m ≡ n * 10 ^ length (fraction_by m k n)
  unfolding fraction_by nat_from
  fraction-nat zero n h e = let z = ends-none m n h e in omega (arith, ap (λ (v : ℕ). v * 10 ^ 0) z)
  fraction-nat (suc k) n h e = go (eqb n 0) refl (fraction-nat k (n * 10 % m) (mod-lt (n * 10) pos-m) (ends_next k m n e))
    where
      go : (t : Bool) → eqb n 0 ≡ t → nat_of 10 (fraction_by m k (n * 10 % m)) * m ≡ n * 10 % m * 10 ^ length (fraction_by m k (n * 10 % m))
          → nat_of 10 (cond t [] (n * 10 / m ∷ fraction_by m k (n * 10 % m))) * m ≡ n * 10 ^ length (cond t [] (n * 10 / m ∷ fraction_by m k (n * 10 % m)))
      go true z r = omega (arith, ap (λ (v : ℕ). v * 10 ^ 0) (eqb-true n 0 z))
      go false z r =
          let ds = fraction_by m k (n * 10 % m) in
          let d = n * 10 / m in
          let p = 10 ^ length ds in
          let cut : (d * m + n * 10 % m) * p ≡ n * 10 * p = ap (λ (v : ℕ). v * p) (div-add-mod' (n * 10) m) in
          let split : nat_of 10 (d ∷ ds) * m ≡ (d * p + nat_of 10 ds) * m = ap (λ (v : ℕ). v * m) (nat_of-cons 10 d ds) in
          let power : n * 10 ^ suc (length ds) ≡ n * (p * 10) = ap (λ (v : ℕ). n * v) (pow-suc 10 (length ds)) in
          omega (arith, cut, split, power, r)

  -- the digits of a fraction are the only ones that write it and end in no 0
  fraction-only : {fs : List ℕ} → Trails fs → Digits fs → (k n : ℕ) → n < m → Ends k m n → nat_of 10 fs * m ≡ n * 10 ^ length fs → fraction_by m k n ≡ fs
  unfolding nat_from
  fraction-only {fs = []} t none k n h e w = let z : n ≡ 0 = omega (arith, w, pow-zero 10) in ap (fraction_by m k) z ∙ fraction-none m k
  fraction-only {fs = d ∷ ds} t (more l r) zero n h e w =
      let z = ends-none m n h e in
      let some : 0 < nat_of 10 (d ∷ ds) * m = mul-pos (trails-some t) pos-m in
      absurd (omega (arith, w, some, ap (λ (v : ℕ). v * 10 ^ length (d ∷ ds)) z))
  fraction-only {fs = d ∷ ds} t (more l r) (suc k) n h e w =
      let p = 10 ^ length ds in
      let some : 0 < nat_of 10 (d ∷ ds) * m = mul-pos (trails-some t) pos-m in
      let not_none : n ≡ 0 → ⊥ = λ z. omega (arith, w, some, ap (λ (v : ℕ). v * 10 ^ length (d ∷ ds)) z) in
      let split : nat_of 10 (d ∷ ds) * m ≡ (d * p + nat_of 10 ds) * m = ap (λ (v : ℕ). v * m) (nat_of-cons 10 d ds) in
      let power : n * 10 ^ suc (length ds) ≡ n * (p * 10) = ap (λ (v : ℕ). n * v) (pow-suc 10 (length ds)) in
      let q = quotient (n * 10) d m p (nat_of 10 ds) pos-m (one-le-pow (length ds) 10 (lit< tt)) (nat-below r) (omega (arith, w, split, power)) in
      fraction-more m k n not_none
      ∙ ap (λ (x : ℕ). x ∷ fraction_by m k (n * 10 % m)) q.0
      ∙ ap (λ (s : List ℕ). d ∷ s) (fraction-only (trails-rest t) r k (n * 10 % m) (mod-lt (n * 10) pos-m) (ends_next k m n e) (sym q.1))

  fraction-trails : (k n : ℕ) → n < m → Ends k m n → Trails (fraction_by m k n)
  unfolding fraction_by nat_from
  fraction-trails zero n h e = empty
  fraction-trails (suc k) n h e =
      let r = n * 10 % m in
      let l = mod-lt (n * 10) pos-m in
      let t = ends_next k m n e in
      go (eqb n 0) refl (fraction_by m k r) (fraction-trails k r l t) (fraction-nat k r l t)
    where
      go : (t : Bool) → eqb n 0 ≡ t → (ds : List ℕ) → Trails ds → nat_of 10 ds * m ≡ n * 10 % m * 10 ^ length ds → Trails (cond t [] (n * 10 / m ∷ ds))
      go true z ds t w = empty
      go false z [] t w =
          let d = n * 10 / m in
          let cut : d * m + n * 10 % m ≡ n * 10 = div-add-mod' (n * 10) m in
          let whole : n * 10 % m ≡ 0 = omega (arith, w, pow-zero 10) in
          last {d = d} (pos_of_ne-zero (λ no_digit. omega (arith, eqb-false n 0 z, cut, whole, ap (λ (v : ℕ). v * m) no_digit)))
      go false z (c ∷ ds) t w = before t

-- ---- the text of a number has the form, and its digits write the number
fraction-pointed : (m n k : ℕ) → n < 2 ^ k → cond (eqb n 0) [] (46 ∷ map byte_of (fraction_by m k n)) ≡ pointed (fraction_by m k n)
unfolding pointed
fraction-pointed m n k h = go (eqb n 0) refl k h
  where
    go : (t : Bool) → eqb n 0 ≡ t → (k : ℕ) → n < 2 ^ k → cond t [] (46 ∷ map byte_of (fraction_by m k n)) ≡ pointed (fraction_by m k n)
    go true e k h = sym (ap pointed (ap (fraction_by m k) (eqb-true n 0 e) ∙ fraction-none m k))
    go false e zero h = absurd (omega (arith, eqb-false n 0 e, h, pow-zero 2))
    go false e (suc k) h = rw (fraction-more m k n (eqb-false n 0 e))

pub text-form : (neg : Bool) (m f : ℕ) → text_of neg m f ≡ form_text neg (whole_digits (m / 2 ^ f)) (fraction_digits f (m % 2 ^ f))
unfolding text_of form_text whole_text fraction_text fraction_digits
text-form neg m f =
    ap (λ (t : List ℕ). sign_text neg ++ (map byte_of (whole_digits (m / 2 ^ f)) ++ t)) (fraction-pointed (2 ^ f) (m % 2 ^ f) f (mod-lt m (pow_pos f)))

pub digits-write : (m f : ℕ) → Writes (whole_digits (m / 2 ^ f)) (fraction_digits f (m % 2 ^ f)) m f
unfolding fraction_digits
digits-write m f =
    let q = m / 2 ^ f in
    let n = m % 2 ^ f in
    let ds = fraction_by (2 ^ f) f n in
    let p = 10 ^ length ds in
    let number : nat_of 10 (whole_digits q ++ ds) ≡ q * p + nat_of 10 ds = nat_of-append 10 (whole_digits q) ds
    ∙ ap (λ (v : ℕ). v * p + nat_of 10 ds) (whole-nat q) in
    let scaled : nat_of 10 (whole_digits q ++ ds) * 2 ^ f ≡ (q * p + nat_of 10 ds) * 2 ^ f = ap (λ (v : ℕ). v * 2 ^ f) number in
    let rest : nat_of 10 ds * 2 ^ f ≡ n * p = fraction-nat (2 ^ f) (pow_pos f) f n (mod-lt m (pow_pos f)) (ends-start f n) in
    let cut : (q * 2 ^ f + n) * p ≡ m * p = ap (λ (v : ℕ). v * p) (div-add-mod' m (2 ^ f)) in
    omega (arith, scaled, rest, cut)

pub form_of : (neg : Bool) (m f : ℕ) → (neg ≡ true → 0 < m) → Form neg (whole_digits (m / 2 ^ f)) (fraction_digits f (m % 2 ^ f))
unfolding fraction_digits
form_of neg m f h =
    let n = m % 2 ^ f in
    let l = mod-lt m (pow_pos f) in
    let ds = fraction_by (2 ^ f) f n in
    let number = nat_of 10 (whole_digits (m / 2 ^ f) ++ ds) in
    let writes : number * 2 ^ f ≡ m * 10 ^ length ds = digits-write m f in
    record {
      whole-digits = whole-digits-of (m / 2 ^ f);
      fraction-digits = fraction-digits-of (2 ^ f) (pow_pos f) f n l;
      leads = whole-leads (m / 2 ^ f);
      trails = fraction-trails (2 ^ f) (pow_pos f) f n l (ends-start f n);
      negative =
          λ e.
          let some : 0 < m * 10 ^ length ds = mul-pos (h e) (one-le-pow (length ds) 10 (lit< tt)) in
          pos_of_ne-zero (λ z. omega (arith, writes, some, ap (λ (v : ℕ). v * 2 ^ f) z));
    }

-- ---- and it is the only text of the form for its number
pub only : (neg : Bool) (ws fs : List ℕ) (m f : ℕ) → Form neg ws fs → Writes ws fs m f → form_text neg ws fs ≡ text_of neg m f
unfolding fraction_digits
only neg ws fs m f form w =
    let p = 10 ^ length fs in
    let number : nat_of 10 (ws ++ fs) * 2 ^ f ≡ (nat_of 10 ws * p + nat_of 10 fs) * 2 ^ f = ap (λ (v : ℕ). v * 2 ^ f) (nat_of-append 10 ws fs) in
    let q = quotient m (nat_of 10 ws) (2 ^ f) p (nat_of 10 fs) (pow_pos f) (one-le-pow (length fs) 10 (lit< tt)) (nat-below form.fraction-digits)
    (omega (arith, number, w)) in
    let whole : whole_digits (m / 2 ^ f) ≡ ws = ap whole_digits q.0 ∙ whole-only form.leads form.whole-digits in
    let rest : fraction_by (2 ^ f) f (m % 2 ^ f) ≡ fs =
    fraction-only (2 ^ f) (pow_pos f) form.trails form.fraction-digits f (m % 2 ^ f) (mod-lt m (pow_pos f)) (ends-start f (m % 2 ^ f)) (sym q.1) in
    sym (text-form neg m f ∙ ap₂ (form_text neg) whole rest)
