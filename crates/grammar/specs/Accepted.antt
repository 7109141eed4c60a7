-- What a scan can end with: a refusal of a text, 11 to 19, or a number of the radix. Shown for one byte, then for all. Assumes nothing.
use Rattle.std.specs.Prelude.{◌≡◌, ◌⊎◌, Bool, true, cond, ◌||◌, ℕ, ◌+◌, ◌*◌, ◌≤◌, ◌<◌, T, leb, eqb, length, get_or}
use Rattle.std.proofs.Math.Path.{refl}
use Rattle.std.proofs.Common.{sym, ap, ◌∙◌, subst, arith, leb→le, length-append}
use Rattle.std.proofs.Math.Logic.{inl, inr}
use Rattle.std.proofs.Math.Bool.{false}
use Rattle.std.proofs.lemmas.Bool.{false≢true}
use mathlib.Core.List.Memᴰ
use mathlib.Core.List.{List, [], ◌∷◌, ◌++◌, Memᴰ}
use borrow.Author.Tests.{leb-true, ltb-true, eqb-true}
use Rattle.format.specs.Meaning.{Sign}
use Rattle.grammar.specs.Meaning.{digit_of, is_sign, is_mark, Written, Reading, number, unread, exp_limit, prefix_mark, prefix_radix}
use Rattle.grammar.specs.Meaning.{after_prefix, literal_minus, literal_body, literal_radix, is_bit_mark, is_radix, blank, with_digit}
use Rattle.grammar.specs.Automaton.{Sep, Skip, Error, is_digit, base_of, NumberPart, whole, fraction, exponent, Seen, nothing}
use Rattle.grammar.specs.Automaton.{sign, digit, Scan, at, refuse, on_exp_digit, step, scan, ended, finish, plain_scan}
use Rattle.grammar.specs.Automaton.{literal_scan, on_sign, on_point, invalid, on_underscore, on_mark, on_other, reading_of}

-- the exponent: 0 until a digit of it was read, then within its range
unfoldable pub ExpIs : NumberPart → Seen → Bool → ℕ → Type 0
ExpIs whole q down e = e ≡ 0
ExpIs fraction q down e = e ≡ 0
ExpIs exponent nothing down e = e ≡ 0
ExpIs exponent sign down e = e ≡ 0
ExpIs exponent digit down e = e ≤ exp_limit down

-- what a decimal exponent scales by: 10, and there is none without a mark
abbrev pub TenIs : NumberPart → ℕ → ℕ → Type 0
TenIs whole base e = e ≡ 0
TenIs fraction base e = e ≡ 0
TenIs exponent base e = base ≡ 10

-- what the exponent scales by: 1 where there is none, then 2 or the radix
unfoldable pub BaseIs : ℕ → NumberPart → ℕ → Type 0
BaseIs radix whole base = base ≡ 1
BaseIs radix fraction base = base ≡ 1
BaseIs radix exponent base = (base ≡ 2) ⊎ (base ≡ radix)

-- A number of the radix: its digits are below the radix, no more of them stand after the point than there are, what the exponent scales by is
-- the radix or 2 (1 if there is no mark), and the exponent is in its range.
pub record Sound (radix : ℕ) (p : NumberPart) (q : Seen) (x : Written) : Type 0 where
  pub below : (d : ℕ) → Memᴰ d x.digits → d < radix
  pub within : x.after ≤ length x.digits
  pub base-is : BaseIs radix p x.base
  pub exp-is : ExpIs p q x.down x.exp
  pub ten-is : radix ≡ 10 → TenIs p x.base x.exp

pub data Ends (radix : ℕ) : Scan → Type 0 where
  ends_at : {p : NumberPart} {q : Seen} {x : Written} → Sound radix p q x → Ends radix (at p q x)
  ends-not : {n : ℕ} → 11 ≤ n → n ≤ 19 → Ends radix (refuse n)

-- a test's two outcomes
pub by-test : {A : Type 0} (P : A → Type 0) (t : Bool) {a b : A} → (t ≡ true → P a) → (t ≡ false → P b) → P (cond t a b)
by-test P true f g = f refl
by-test P false f g = g refl

-- no mark of radix 10 scales by 2
ten-base : (radix b : ℕ) → radix ≡ 10 → is_mark radix b ≡ true → base_of radix b ≡ 10
unfolding is_mark
ten-base radix b r m = go (eqb b 112) (eqb b 80) refl refl
  where
    go : (g h : Bool) → eqb b 112 ≡ g → eqb b 80 ≡ h → cond (g || h) 2 radix ≡ 10
    go true h e f = absurd (false≢true ((rw (r, eqb-true b 112 e) at m)))
    go false true e f = absurd (false≢true ((rw (r, eqb-true b 80 f) at m)))
    go false false e f = r

module _ (radix : ℕ) where
  stop : (n : ℕ) → T (leb 11 n) → T (leb n 19) → Ends radix (refuse n)
  stop n l h = ends-not (leb→le 11 n l) (leb→le n 19 h)

  sound-blank : (neg : Bool) (q : Seen) → Sound radix whole q (blank neg)
  unfolding ExpIs BaseIs
  sound-blank neg q = record { below = λ d m. absurd (Memᴰ.not-nil m); within = omega arith; base-is = refl; exp-is = refl; ten-is = λ r. refl }

  -- one more digit of the number
  sound-digit : (p : NumberPart) (x : Written) (d places : ℕ) (q : Seen) → d < radix → places ≤ 1 → Sound radix p q x → ExpIs p digit x.down x.exp
      → Sound radix p digit (with_digit x d places)
  sound-digit p x d places q h l s e =
      record {
        below = λ c m. pick c (Memᴰ.append_cases x.digits m);
        within = omega (arith, length-append x.digits (d ∷ []), s.within);
        base-is = s.base-is;
        exp-is = e;
        ten-is = s.ten-is;
      }
    where
      pick : (c : ℕ) → Memᴰ c x.digits ⊎ Memᴰ c (d ∷ []) → c < radix
      pick c (inl m) = s.below c m
      pick c (inr m) = subst (λ (v : ℕ). v < radix) (sym (Memᴰ.eq_of_singleton m)) h

  on-sign : (minus : Bool) (p : NumberPart) (q : Seen) (x : Written) → Sound radix p q x → Ends radix (on_sign minus p q x)
  unfolding on_sign ExpIs
  on-sign minus whole nothing x s = ends_at (sound-blank minus sign)
  on-sign minus whole sign x s = stop 12 tt tt
  on-sign minus whole digit x s = stop 12 tt tt
  on-sign minus fraction q x s = stop 12 tt tt
  on-sign minus exponent nothing x s = ends_at (record { below = s.below; within = s.within; base-is = s.base-is; exp-is = s.exp-is; ten-is = s.ten-is })
  on-sign minus exponent sign x s = stop 12 tt tt
  on-sign minus exponent digit x s = stop 12 tt tt

  on-point : (p : NumberPart) (q : Seen) (x : Written) → Sound radix p q x → Ends radix (on_point p x)
  unfolding on_point ExpIs BaseIs
  on-point whole q x s = ends_at (record { below = s.below; within = s.within; base-is = s.base-is; exp-is = s.exp-is; ten-is = s.ten-is })
  on-point fraction q x s = stop 15 tt tt
  on-point exponent q x s = stop 16 tt tt

  on-invalid : (p : NumberPart) → Ends radix (invalid p)
  on-invalid whole = stop 13 tt tt
  on-invalid fraction = stop 13 tt tt
  on-invalid exponent = stop 16 tt tt

  on-underscore : (k : Sep) (p : NumberPart) (q : Seen) (x : Written) → Sound radix p q x → Ends radix (on_underscore k p q x)
  unfolding on_underscore
  on-underscore Error p q x s = on-invalid p
  on-underscore Skip p nothing x s = stop 14 tt tt
  on-underscore Skip p sign x s = stop 14 tt tt
  on-underscore Skip p digit x s = ends_at s

  on-mark : (b : ℕ) (p : NumberPart) (q : Seen) (x : Written) → is_mark radix b ≡ true → Sound radix p q x → Ends radix (on_mark (base_of radix b) p x)
  unfolding on_mark ExpIs BaseIs
  on-mark b whole q x m s = ends_at (record {
    below = s.below;
    within = s.within;
    base-is = by-test (λ (v : ℕ). (v ≡ 2) ⊎ (v ≡ radix)) (is_bit_mark b) (λ t. inl refl) (λ t. inr refl);
    exp-is = s.exp-is;
    ten-is = λ r. ten-base radix b r m;
  })
  on-mark b fraction q x m s = ends_at (record {
    below = s.below;
    within = s.within;
    base-is = by-test (λ (v : ℕ). (v ≡ 2) ⊎ (v ≡ radix)) (is_bit_mark b) (λ t. inl refl) (λ t. inr refl);
    exp-is = s.exp-is;
    ten-is = λ r. ten-base radix b r m;
  })
  on-mark b exponent q x m s = stop 18 tt tt

  on-exp-digit : (d : ℕ) (q : Seen) (x : Written) → Sound radix exponent q x → Ends radix (on_exp_digit d x)
  unfolding on_exp_digit ExpIs
  on-exp-digit d q x s =
      by-test (Ends radix) (leb (x.exp * 10 + d) (exp_limit x.down))
      (λ t. ends_at (record { below = s.below; within = s.within; base-is = s.base-is; exp-is = leb-true _ _ t; ten-is = s.ten-is }))
      (λ t. stop 19 tt tt)

  on-other : (b : ℕ) (p : NumberPart) (q : Seen) (x : Written) → Sound radix p q x → Ends radix (on_other radix b p x)
  unfolding on_other ExpIs
  on-other b whole q x s =
      by-test (Ends radix) (is_digit radix b) (λ t. ends_at (sound-digit whole x (digit_of b) 0 q (ltb-true _ _ t) (omega arith) s s.exp-is))
      (λ t. on-invalid whole)
  on-other b fraction q x s =
      by-test (Ends radix) (is_digit radix b) (λ t. ends_at (sound-digit fraction x (digit_of b) 1 q (ltb-true _ _ t) (omega arith) s s.exp-is))
      (λ t. on-invalid fraction)
  on-other b exponent q x s = by-test (Ends radix) (is_digit 10 b) (λ t. on-exp-digit (digit_of b) q x s) (λ t. on-invalid exponent)

  on-byte : (k : Sep) (b : ℕ) (p : NumberPart) (q : Seen) (x : Written) → Sound radix p q x → Ends radix (step k radix b p q x)
  unfolding step
  on-byte k b p q x s =
      by-test (Ends radix) (is_sign b) (λ t. on-sign (eqb b 45) p q x s) (λ t.
      by-test (Ends radix) (eqb b 46) (λ t. on-point p q x s) (λ t.
      by-test (Ends radix) (eqb b 95) (λ t. on-underscore k p q x s) (λ t.
      by-test (Ends radix) (is_mark radix b) (λ t. on-mark b p q x t s) (λ t. on-other b p q x s))))

  on-bytes : (k : Sep) (t : List ℕ) {r : Scan} → Ends radix r → Ends radix (scan k radix t r)
  unfolding scan
  on-bytes k [] h = h
  on-bytes k (b ∷ t) (ends_at {p} {q} {x} s) = on-bytes k t (on-byte k b p q x s)
  on-bytes k (b ∷ t) (ends-not l h) = ends-not l h

  on-end : (p : NumberPart) (q : Seen) (x : Written) → Sound radix p q x → Ends radix (ended p q x)
  unfolding ended
  on-end whole q x s = ends_at s
  on-end fraction q x s = ends_at s
  on-end exponent nothing x s = stop 17 tt tt
  on-end exponent sign x s = stop 17 tt tt
  on-end exponent digit x s = ends_at s

  on-finish : {r : Scan} → Ends radix r → Ends radix (finish r)
  unfolding finish
  on-finish (ends_at {p} {q} {x} s) = by-test (Ends radix) (eqb (length x.digits) 0) (λ t. stop 11 tt tt) (λ t. on-end p q x s)
  on-finish (ends-not l h) = ends-not l h

  -- both readers
  pub plain-ends : (t : List ℕ) → Ends radix (plain_scan radix t)
  unfolding plain_scan
  plain-ends t = on-finish (on-bytes Error t (ends_at (sound-blank false nothing)))

pub literal-ends : (s : Sign) (t : List ℕ) → Ends (literal_radix s t) (literal_scan s t)
unfolding literal_scan
literal-ends s t =
    let radix = literal_radix s t in
    on-finish radix (on-bytes radix Skip (after_prefix (literal_body s t)) (ends_at (sound-blank radix (literal_minus s t) sign)))

-- ---- the same of a reading: where the scan stood at the end matters no more
pub record Numbered (radix : ℕ) (x : Written) : Type 0 where
  pub part : NumberPart
  pub seen : Seen
  pub sound : Sound radix part seen x

pub data Says (radix : ℕ) : Reading → Type 0 where
  says : {x : Written} → Numbered radix x → Says radix (number x)
  says-not : {n : ℕ} → 11 ≤ n → n ≤ 19 → Says radix (unread n)

pub ends-says : {radix : ℕ} {r : Scan} → Ends radix r → Says radix (reading_of r)
unfolding reading_of
ends-says (ends_at {p} {q} s) = says (record { part = p; seen = q; sound = s })
ends-says (ends-not l h) = says-not l h

pub says-numbered : {radix : ℕ} {x : Written} → Says radix (number x) → Numbered radix x
says-numbered (says s) = s

-- a number that is read is where a scan ended
pub record At (r : Scan) (x : Written) : Type 0 where
  pub part : NumberPart
  pub seen : Seen
  pub is : r ≡ at part seen x

pub number_at : (r : Scan) {x : Written} → reading_of r ≡ number x → At r x
unfolding reading_of
number_at (at p q y) {x} e = let same : y ≡ x = cc in record { part = p; seen = q; is = ap (at p q) same }
number_at (refuse n) e = let z : ◌≡◌ {A = ℕ} 0 1 = cc in absurd (omega arith)

-- what an outcome of a scan tells
pub ends-sound : {radix : ℕ} {p : NumberPart} {q : Seen} {x : Written} → Ends radix (at p q x) → Sound radix p q x
ends-sound (ends_at s) = s

-- ---- the radix
pub radix-two : (radix : ℕ) → is_radix radix ≡ true → 2 ≤ radix
unfolding is_radix
radix-two r h = go (eqb r 2) (eqb r 8) (eqb r 10) (eqb r 16) refl refl refl refl h
  where
    go : (a b c d : Bool) → eqb r 2 ≡ a → eqb r 8 ≡ b → eqb r 10 ≡ c → eqb r 16 ≡ d → (a || b || c || d) ≡ true → 2 ≤ r
    go true b c d e f g h t = omega (arith, eqb-true r 2 e)
    go false true c d e f g h t = omega (arith, eqb-true r 8 f)
    go false false true d e f g h t = omega (arith, eqb-true r 10 g)
    go false false false true e f g h t = omega (arith, eqb-true r 16 h)
    go false false false false e f g h t = absurd (false≢true t)

-- a literal's radix is one
pub prefix-legal : (t : List ℕ) → is_radix (prefix_radix t) ≡ true
unfolding is_radix prefix_radix prefix_mark
prefix-legal t =
    let P : ℕ → Type 0 = λ r. is_radix r ≡ true in
    let b = get_or t 1 0 in
    by-test P (eqb (get_or t 0 0) 48) (λ _. by-test P (eqb b 98) (λ _. refl) (λ _. by-test P (eqb b 111) (λ _. refl)
    (λ _. by-test P (eqb b 120) (λ _. refl) (λ _. refl)))) (λ _. refl)

pub sound-bases : {radix : ℕ} {p : NumberPart} {q : Seen} {x : Written} → Sound radix p q x → (x.base ≡ 1) ⊎ (x.base ≡ 2) ⊎ (x.base ≡ radix)
unfolding BaseIs
sound-bases {radix} {p} {q} {x} s = go p s.base-is
  where
    go : (p : NumberPart) → BaseIs radix p x.base → (x.base ≡ 1) ⊎ (x.base ≡ 2) ⊎ (x.base ≡ radix)
    go whole e = inl e
    go fraction e = inl e
    go exponent (inl e) = inr (inl e)
    go exponent (inr e) = inr (inr e)

pub sound-base : {radix : ℕ} {p : NumberPart} {q : Seen} {x : Written} → 0 < radix → Sound radix p q x → 0 < x.base
sound-base {radix} {p} {q} {x} h s = go (sound-bases s)
  where
    go : (x.base ≡ 1) ⊎ (x.base ≡ 2) ⊎ (x.base ≡ radix) → 0 < x.base
    go (inl e) = omega arith
    go (inr (inl e)) = omega arith
    go (inr (inr e)) = omega arith

pub sound-exp : {radix : ℕ} {p : NumberPart} {q : Seen} {x : Written} → Sound radix p q x → x.exp ≤ exp_limit x.down
unfolding ExpIs
sound-exp {radix} {p} {q} {x} s = go p q s.exp-is
  where
    go : (p : NumberPart) (q : Seen) → ExpIs p q x.down x.exp → x.exp ≤ exp_limit x.down
    go whole q e = omega arith
    go fraction q e = omega arith
    go exponent nothing e = omega arith
    go exponent sign e = omega arith
    go exponent digit e = e

-- ---- what is accepted at the end was there before it, and has a digit
pub finish-at : (r : Scan) {p : NumberPart} {q : Seen} {x : Written} → finish r ≡ at p q x → (r ≡ at p q x) × (eqb (length x.digits) 0 ≡ false)
unfolding finish ended
finish-at (refuse n) e = let z : ◌≡◌ {A = ℕ} 0 1 = cc in absurd (omega arith)
finish-at (at p q y) {p = p'} {q = q'} {x} e = go (eqb (length y.digits) 0) refl p q e
  where
    go : (t : Bool) → eqb (length y.digits) 0 ≡ t → (p : NumberPart) (q : Seen) → cond t (refuse 11) (ended p q y) ≡ at p' q' x
        → (at p q y ≡ at p' q' x) × (eqb (length x.digits) 0 ≡ false)
    go true z p q e = let z : ◌≡◌ {A = ℕ} 0 1 = cc in absurd (omega arith)
    go false z whole q e = let same : y ≡ x = cc in (e, ap (λ (v : Written). eqb (length v.digits) 0) (sym same) ∙ z)
    go false z fraction q e = let same : y ≡ x = cc in (e, ap (λ (v : Written). eqb (length v.digits) 0) (sym same) ∙ z)
    go false z exponent nothing e = let z : ◌≡◌ {A = ℕ} 0 1 = cc in absurd (omega arith)
    go false z exponent sign e = let z : ◌≡◌ {A = ℕ} 0 1 = cc in absurd (omega arith)
    go false z exponent digit e = let same : y ≡ x = cc in (e, ap (λ (v : Written). eqb (length v.digits) 0) (sym same) ∙ z)

-- ---- a refusal stands; and one text after another
pub scan-refuse : (k : Sep) (radix : ℕ) (t : List ℕ) (n : ℕ) → scan k radix t (refuse n) ≡ refuse n
unfolding scan
scan-refuse k radix [] n = refl
scan-refuse k radix (b ∷ t) n = refl

pub scan-append : (k : Sep) (radix : ℕ) (t u : List ℕ) (r : Scan) → scan k radix (t ++ u) r ≡ scan k radix u (scan k radix t r)
unfolding scan
scan-append k radix [] u r = refl
scan-append k radix (b ∷ t) u (refuse n) = sym (scan-refuse k radix u n)
scan-append k radix (b ∷ t) u (at p q x) = scan-append k radix t u (step k radix b p q x)
