-- Reading in a radix that is a power of two: what the exponent scales by is one as well, so the raw is the digits, shifted and rounded.
-- Assumes nothing.
use Rattle.std.specs.Prelude.{◌≡◌, ◌⊎◌, Bool, true, false, ℕ, zero, suc, ◌+◌, ◌-◌, ◌*◌, ◌^◌, ◌≤◌, ◌<◌, length, take}
use Rattle.std.proofs.Math.Path.{sym, ap, ap₂}
use Rattle.std.proofs.Common.{◌∙◌, subst, inl, inr, mul-le-mul, take_all, pow-suc, pow-add, pow_pos, pow_mono}
use Rattle.std.proofs.Math.Decide.{dec_le}
use mathlib.Core.List.{List, Memᴰ}
use native.Mathlib.Omega.{arith}
use Rattle.laws.specs.Nearest.{nearest_even, nearest-exact, nearest-scale}
use Rattle.laws.specs.Powers.{power-sub}
use Rattle.grammar.specs.Meaning.{num, den, raw_of, text_limit}
use Rattle.grammar.specs.Naturals.{nat_of}
use Rattle.fold.specs.declared.Folded.{Folded}
use Rattle.fold.specs.Fold.{fold_of, folded_value, fold-times}
use Rattle.grammar.specs.Run.{body_of}
use Rattle.fold.specs.Body.{as_written, body-length}
use Rattle.bits.specs.Cut.{bits_number, WholeBits, pow-pow}

-- what a radix is here, and what an exponent scales by
abbrev pub Power : ℕ → Type 0
Power p = (p ≡ 1) ⊎ (p ≡ 2) ⊎ (p ≡ 8) ⊎ (p ≡ 16)

-- what the reader hands over: a text that the scan accepted
pub record Legal (t : List ℕ) (n after radix base exp frac : ℕ) : Type 0 where
  pub count : n ≡ length (body_of t)
  pub short : length t ≤ text_limit
  pub within : after ≤ n
  pub radix-is : (radix ≡ 2) ⊎ (radix ≡ 8) ⊎ (radix ≡ 16)
  pub base-is : (base ≡ 1) ⊎ (base ≡ 2) ⊎ (base ≡ radix)
  pub below : (d : ℕ) → Memᴰ d (body_of t) → d < radix
  pub small : exp ≤ 2 ^ 31
  pub room : frac ≤ 64

-- ---- no digit is cut, or one is
module _ (ds : List ℕ) (n width up down : ℕ) (digits : WholeBits ds n width) where
  pub whole-done : {x r : Folded} → down ≤ up → x ≡ fold_of (nat_of (2 ^ width) (take n ds)) → r ≡ fold_of (folded_value x * 2 ^ (up - down))
      → r ≡ fold_of (nearest_even (bits_number ds width * 2 ^ up) (2 ^ down))
  whole-done {x} {r} h all e =
      let number = bits_number ds width in
      let every : take n ds ≡ ds = take_all n ds (omega (arith, digits.count)) in
      let exact : number * 2 ^ up ≡ number * 2 ^ (up - down) * 2 ^ down = omega (arith, ap (λ (k : ℕ). number * k) (power-sub down up h)) in
      e
      ∙ ap (λ (z : Folded). fold_of (folded_value z * 2 ^ (up - down))) (all ∙ ap (λ (l : List ℕ). fold_of (nat_of (2 ^ width) l)) every)
      ∙ fold-times number (2 ^ (up - down)) (pow_pos (up - down))
      ∙ ap fold_of (sym (ap (λ (k : ℕ). nearest_even k (2 ^ down)) exact ∙ nearest-exact (number * 2 ^ (up - down)) (2 ^ down) (pow_pos down)))

  pub part-done : {r : Folded} → up < down → r ≡ fold_of (nearest_even (bits_number ds width) (2 ^ (down - up)))
      → r ≡ fold_of (nearest_even (bits_number ds width * 2 ^ up) (2 ^ down))
  part-done h e =
      let scaled = nearest-scale (bits_number ds width) (2 ^ (down - up)) (2 ^ up) (pow_pos (down - up)) (pow_pos up) in
      e ∙ ap fold_of (sym (ap (nearest_even (bits_number ds width * 2 ^ up)) (power-sub up down (omega arith)) ∙ scaled))

-- ---- the raw: what the exponent scales by is a power of two as well
module _ (t : List ℕ) (after radix base exp f width bits : ℕ) (r : radix ≡ 2 ^ width) (b : base ≡ 2 ^ bits) where
  places : radix ^ after ≡ 2 ^ (width * after)
  places = ap (λ (k : ℕ). k ^ after) r ∙ pow-pow width after

  scale : base ^ exp ≡ 2 ^ (bits * exp)
  scale = ap (λ (k : ℕ). k ^ exp) b ∙ pow-pow bits exp

  raw-down : raw_of radix f (as_written t after base true exp) ≡ nearest_even (bits_number (body_of t) width * 2 ^ f) (2 ^ (width * after + bits * exp))
  unfolding raw_of num den
  raw-down =
      let up : nat_of radix (body_of t) * 1 * 2 ^ f ≡ bits_number (body_of t) width * 2 ^ f = ap (λ (k : ℕ). nat_of k (body_of t) * 1 * 2 ^ f) r ∙ omega arith in
      ap₂ nearest_even up (ap₂ (λ (x y : ℕ). x * y) places scale ∙ sym (pow-add 2 (width * after) (bits * exp)))

  raw-up : raw_of radix f (as_written t after base false exp) ≡ nearest_even (bits_number (body_of t) width * 2 ^ (f + bits * exp)) (2 ^ (width * after))
  unfolding raw_of num den
  raw-up =
      let up : nat_of radix (body_of t) * base ^ exp * 2 ^ f ≡ bits_number (body_of t) width * 2 ^ (f + bits * exp) =
      ap₂ (λ (k m : ℕ). nat_of k (body_of t) * m * 2 ^ f) r scale ∙ omega (arith, ap (λ (k : ℕ). bits_number (body_of t) width * k) (pow-add 2 f (bits * exp))) in
      let dn : radix ^ after * 1 ≡ 2 ^ (width * after) = omega (arith, places) in
      ap₂ nearest_even up dn

  pub down-done : {x : Folded} {down : Bool} → down ≡ true → x ≡ fold_of (nearest_even (bits_number (body_of t) width * 2 ^ f) (2 ^ (width * after + bits * exp)))
      → x ≡ fold_of (raw_of radix f (as_written t after base down exp))
  down-done e q = rw e (q ∙ ap fold_of (sym raw-down))

  pub up_done : {x : Folded} {down : Bool} → down ≡ false → x ≡ fold_of (nearest_even (bits_number (body_of t) width * 2 ^ (f + bits * exp)) (2 ^ (width * after)))
      → x ≡ fold_of (raw_of radix f (as_written t after base down exp))
  up_done e q = rw e (q ∙ ap fold_of (sym raw-up))

-- ---- what the code asks on the way: a power of two by how it lies between two
exact : (k r : ℕ) → 2 ^ r ≤ 2 ^ k → 2 ^ k < 2 * 2 ^ r → k ≡ r
exact k r low high = go (dec_le (suc k) r) (dec_le (suc r) k)
  where
    go : Dec (suc k ≤ r) → Dec (suc r ≤ k) → k ≡ r
    go (yes h) d = absurd (omega (arith, pow_mono {i = suc k} {j = r} h, pow-suc 2 k, pow_pos k))
    go (no g) (yes h) = absurd (omega (arith, pow_mono {i = suc r} {j = k} h, pow-suc 2 r))
    go (no g) (no h) = omega arith

pub log-power : {p : ℕ} (r : ℕ) → Power p → 2 ^ r ≤ p → p < 2 * 2 ^ r → (p ≡ 2 ^ r) × (r ≤ 4)
log-power {p} r (inl e) l h = let k = exact 0 r (omega arith) (omega arith) in (e ∙ ap (λ (i : ℕ). 2 ^ i) k, omega arith)
log-power {p} r (inr (inl e)) l h = let k = exact 1 r (omega arith) (omega arith) in (e ∙ ap (λ (i : ℕ). 2 ^ i) k, omega arith)
log-power {p} r (inr (inr (inl e))) l h = let k = exact 3 r (omega arith) (omega arith) in (e ∙ ap (λ (i : ℕ). 2 ^ i) k, omega arith)
log-power {p} r (inr (inr (inr e))) l h = let k = exact 4 r (omega arith) (omega arith) in (e ∙ ap (λ (i : ℕ). 2 ^ i) k, omega arith)

module _ {t : List ℕ} {n after radix base exp frac : ℕ} (legal : Legal t n after radix base exp frac) where
  pub radix-power : Power radix
  radix-power = inr legal.radix-is

  pub base-power : Power base
  base-power = go legal.base-is
    where
      go : (base ≡ 1) ⊎ (base ≡ 2) ⊎ (base ≡ radix) → Power base
      go (inl e) = inl e
      go (inr (inl e)) = inr (inl e)
      go (inr (inr e)) = subst Power (sym e) radix-power

  pub legal-digits : {width : ℕ} → (radix ≡ 2 ^ width) × (width ≤ 4) → WholeBits (body_of t) n width
  legal-digits {width} w =
      record {
        count = legal.count;
        some = go width w.0 legal.radix-is;
        small = w.1;
        below = λ d m. subst (λ (r : ℕ). d < r) w.0 (legal.below d m);
      }
    where
      go : (k : ℕ) → radix ≡ 2 ^ k → (radix ≡ 2) ⊎ (radix ≡ 8) ⊎ (radix ≡ 16) → 0 < k
      go zero e (inl r) = absurd (omega arith)
      go zero e (inr (inl r)) = absurd (omega arith)
      go zero e (inr (inr r)) = absurd (omega arith)
      go (suc k) e r = omega arith

  -- no sum of bits comes near a word
  pub places-small : {width : ℕ} → width ≤ 4 → width * after ≤ 4 * text_limit
  places-small h =
      let few : after ≤ text_limit = omega (arith, legal.within, legal.count, legal.short, body-length t) in
      mul-le-mul h few

  pub step_small : {bits : ℕ} → bits ≤ 4 → bits * exp ≤ 4 * 2 ^ 31
  step_small h = mul-le-mul h legal.small
