-- What is proved of the patterns of numbers: the significand is the nearest and even at a tie; the pattern stands for the rounded number; and where the
-- precision is enough, to a pattern and back is the identity. Assumes nothing.
use Rattle.std.specs.Prelude.{◌≡◌, refl, Bool, true, false, cond, leb, ℤ, pos, negsuc}
use Rattle.std.proofs.Math.Path.{sym, ap}
use Rattle.std.proofs.Common.{◌∙◌, mul-pos, mul-le-mul_right, mul-lt-mul_of_pos_right, lt_of_lt_of_le, lt_of_le_of_lt, le-div_iff_mul-le, div-lt_iff_lt-mul, pow_mono, lt-ltb, le-ltb, le-leb, eq-eqb, ne_eqb}
use Prim.Native.Nat.{ℕ, suc, ◌+◌, ◌-◌, ◌*◌, ◌/◌, ◌%◌, ◌^◌, ◌≤◌, ◌<◌}
use Rattle.std.proofs.Math.Decide.{dec_le}
use native.Mathlib.Omega.{arith}
use Rattle.std.proofs.Math.Arith.{digits_div, digits_mod, digits_lt}
use Rattle.std.specs.Int.Count.{count_leading_zeros}
use Rattle.std.specs.Float.Ieee.{size}
use Rattle.std.specs.Float.Ieee.Digits.{size-lt, size_reaches}
use Rattle.std.proofs.Math.IntN.{nat_abs}
use Rattle.std.proofs.Math.Pow.{pow_pos, pow-add}
use Rattle.std.specs.Int.Signed.{lt_z}
use Rattle.std.proofs.lemmas.Bool.{lt-leb}
use Rattle.laws.specs.Nearest.{Nearest, nearest, nearest_even, nearest-exact, nearest-none, nearest-least}
use Rattle.laws.specs.Powers.{power-sub, double}
use Rattle.laws.specs.Signed.{signed as kit}
use Rattle.format.specs.declared.Manner.{Manner}
use Rattle.format.specs.Meaning.{Sign, fault_of, settle, with_sign, done}
use Rattle.format.specs.Fault.{fault-free, width-bounds}
use Rattle.format.specs.Settle.{unless-none}
use Rattle.format.specs.Theorems.{InRange, lowest-out, highest-out}
use Rattle.format.proofs.Theorems.{settle-fits}
use Rattle.format.proofs.Far.{limit-word}
use Rattle.float.specs.Meaning.{Binary, bias, least, negative, biased, trailing, steps}
use Rattle.float.specs.Meaning.{infinite, finite, of_fields, pattern_value, raw_of_steps}
use Rattle.float.specs.Parts.{binary, Roomy}
use Rattle.float.specs.Scaled.{scaled-few}
use Rattle.from_float.specs.Meaning.{of_value, from_float_of}
use Rattle.to_float.specs.Meaning.{unit, significand, nearest_steps, rounded_value, joined, pattern_by, pattern_of}
use Rattle.to_float.specs.Encoding.{nearest-most, Digits, digits-of, unit-is, significand-is, steps-below}
use Rattle.to_float.specs.Encoding.{roomy-least}

-- ---- "nearest, ties to even": n / 2^f in units of the significand's last place
pub significand-nearest : (b : Binary) (n f : ℕ) → Nearest (n * 2 ^ least b) (2 ^ f * 2 ^ unit b n f) (significand b n f)
significand-nearest b n f = nearest (n * 2 ^ least b) (2 ^ f * 2 ^ unit b n f) (mul-pos (pow_pos f) (pow_pos (unit b n f)))

-- of 0 it is 0
significand-zero : (b : Binary) (n f : ℕ) → n ≡ 0 → significand b n f ≡ 0
significand-zero b n f z =
    let u = 2 ^ f * 2 ^ unit b n f in
    ap (λ (v : ℕ). nearest_even (v * 2 ^ least b) u) z ∙ nearest-none (0 * 2 ^ least b) u (omega (arith, mul-pos (pow_pos f) (pow_pos (unit b n f))))

-- ---- the fields that `joined` puts together are found again
module _ (p w : ℕ) (neg : Bool) (e t : ℕ) (low : t < 2 ^ (p - 1)) (most : e < 2 ^ w) where
  abbrev h : ℕ
  h = 2 ^ (p - 1)

  -- the sign and E as one number of places
  abbrev upper : Bool → ℕ
  upper s = cond s (2 ^ w) 0 + e

  whole : joined (binary p w) neg e t ≡ upper neg * h + t
  whole = go neg
    where
      go : (s : Bool) → cond s (2 ^ (w + (p - 1))) 0 + e * h + t ≡ upper s * h + t
      go true = omega (arith, pow-add 2 w (p - 1))
      go false = omega arith

  field-biased : biased (binary p w) (joined (binary p w) neg e t) ≡ e
  field-biased = ap (λ (v : ℕ). v / h % 2 ^ w) whole ∙ ap (λ (v : ℕ). v % 2 ^ w) (digits_div (upper neg) low) ∙ go neg
    where
      go : (s : Bool) → upper s % 2 ^ w ≡ e
      go true =
          let one : 2 ^ w + e ≡ 1 * 2 ^ w + e = omega arith in
          ap (λ (v : ℕ). v % 2 ^ w) one ∙ digits_mod 1 most
      go false =
          let none : 0 + e ≡ 0 * 2 ^ w + e = omega arith in
          ap (λ (v : ℕ). v % 2 ^ w) none ∙ digits_mod 0 most

  pub field-trailing : trailing (binary p w) (joined (binary p w) neg e t) ≡ t
  field-trailing = ap (λ (v : ℕ). v % h) whole ∙ digits_mod (upper neg) low

  field-negative : negative (binary p w) (joined (binary p w) neg e t) ≡ neg
  field-negative = go neg
    where
      below : e * h + t < 2 ^ (w + (p - 1))
      below = rw (pow-add 2 w (p - 1)) (digits_lt {m = 2 ^ w} most low)

      go : (s : Bool) → leb (2 ^ (w + (p - 1))) (cond s (2 ^ (w + (p - 1))) 0 + e * h + t) ≡ s
      go true = le-leb (2 ^ (w + (p - 1))) (2 ^ (w + (p - 1)) + e * h + t) (omega arith)
      go false = lt-leb (2 ^ (w + (p - 1))) (0 + e * h + t) (omega (arith, below))

  pub joined-value : pattern_value (binary p w) (joined (binary p w) neg e t) ≡ of_fields (binary p w) neg e t
  unfolding pattern_value
  joined-value = rw (field-negative, field-biased, field-trailing)

-- ---- n / 2^f in units of the significand's last place: below 2^p, and at least 2^(p-1) where digits were cut off
module _ (b : Binary) (n f : ℕ) where
  pub units-below : n * 2 ^ least b < 2 ^ b.precision * (2 ^ f * 2 ^ unit b n f)
  units-below =
      let p = b.precision in
      let u = unit b n f in
      let x = n * 2 ^ least b / 2 ^ f in
      let more : x < 2 ^ (p + u) = lt_of_lt_of_le (size-lt x) (pow_mono {i = size x} {j = p + u} (omega arith)) in
      omega (arith, (div-lt_iff_lt-mul (pow_pos f)).0 more, ap (λ (v : ℕ). v * 2 ^ f) (pow-add 2 p u))

  pub units-least : 1 ≤ b.precision → 0 < unit b n f
      → 2 ^ (b.precision - 1) * (2 ^ f * 2 ^ unit b n f) ≤ n * 2 ^ least b
  units-least some cut =
      let i = b.precision - 1 in
      let u = unit b n f in
      let x = n * 2 ^ least b / 2 ^ f in
      let less : 2 ^ (i + u) ≤ x = size_reaches x (i + u) (omega arith) in
      omega (arith, (le-div_iff_mul-le (pow_pos f)).0 less, ap (λ (v : ℕ). v * 2 ^ f) (pow-add 2 i u))

  unit-some : 0 < 2 ^ f * 2 ^ unit b n f
  unit-some = mul-pos (pow_pos f) (pow_pos (unit b n f))

  pub significand-most : significand b n f ≤ 2 ^ b.precision
  significand-most =
      nearest-most (n * 2 ^ least b) (2 ^ f * 2 ^ unit b n f) (2 ^ b.precision) unit-some (omega (arith, units-below))

  pub significand-least : 1 ≤ b.precision → 0 < unit b n f → 2 ^ (b.precision - 1) ≤ significand b n f
  significand-least some cut =
      nearest-least (n * 2 ^ least b) (2 ^ f * 2 ^ unit b n f) (2 ^ (b.precision - 1)) unit-some (units-least some cut)

-- ---- E and T of a significand c in a place k: they stand for c x 2^k steps, and T is even where c is
pub record Fields (p w : ℕ) (neg : Bool) (c k : ℕ) : Type 0 where
  pub e : ℕ
  pub t : ℕ
  pub made : pattern_by (binary p w) neg c k ≡ joined (binary p w) neg e t
  pub low : t < 2 ^ (p - 1)
  pub most : e < 2 ^ w - 1
  pub same : steps (binary p w) e t ≡ c * 2 ^ k
  pub even : c % 2 ≡ 0 → t % 2 ≡ 0

-- the steps of 2^(emax + 1), past the largest number
abbrev pub past : Binary → ℕ
past b = 2 ^ (least b + bias b + 1)

exponent-below : (i j : ℕ) → 2 ^ i < 2 ^ j → i < j
exponent-below i j h = go (dec_le j i)
  where
    go : Dec (j ≤ i) → i < j
    go (yes l) = absurd (omega (arith, pow_mono {i = j} {j = i} l))
    go (no l) = omega arith

-- below them E is below the one of infinities
module _ (p w : ℕ) (some : 2 ≤ p) (field : 2 ≤ w) where
  field_end : 4 ≤ 2 ^ w
  field_end = pow_mono {i = 2} {j = w} field

  place_end : (i k : ℕ) → 2 ^ i * 2 ^ k < past (binary p w) → i + k < (p - 1) + (2 ^ w - 2)
  place_end i k h =
      let l = exponent-below (i + k) (least (binary p w) + bias (binary p w) + 1) (rw (pow-add 2 i k) h) in
      omega (arith, l, double w (omega arith), field_end)

module _ (p w : ℕ) (some : 2 ≤ p) (field : 2 ≤ w) (neg : Bool) (c k : ℕ)
    (high : c ≤ 2 ^ p) (lead : 0 < k → 2 ^ (p - 1) ≤ c) (below : c * 2 ^ k < past (binary p w)) where
  pub fields : Fields p w neg c k
  unfolding pattern_by
  fields = go (dec_le (2 ^ (p - 1)) c) (dec_le (suc c) (2 ^ p))
    where
      h : ℕ
      h = 2 ^ (p - 1)

      go : Dec (h ≤ c) → Dec (suc c ≤ 2 ^ p) → Fields p w neg c k
      go (yes l) (yes m) =
          let place = place_end p w some field (p - 1) k (lt_of_le_of_lt (mul-le-mul_right (2 ^ k) l) below) in
          let e : h + (c - h) ≡ c = omega arith in
          let j : (k + 1) - 1 ≡ k = omega arith in
          record {
            e = k + 1;
            t = c - h;
            made = rw (le-ltb c h l, lt-ltb c (2 ^ p) m);
            low = omega (arith, double p (omega arith));
            most = omega (arith, field_end p w some field);
            same = rw (ne_eqb (k + 1) 0 (λ z. omega arith), e, j);
            even = λ z. omega (arith, double (p - 1) (omega arith));
          }
      go (yes l) (no m) =
          let r : 2 ^ p ≤ c = omega arith in
          let place = place_end p w some field p k (lt_of_le_of_lt (mul-le-mul_right (2 ^ k) r) below) in
          let e : c ≡ h * 2 = omega (arith, double p (omega arith)) in
          let j : (k + 2) - 1 ≡ k + 1 = omega arith in
          record {
            e = k + 2;
            t = 0;
            made = rw (le-ltb c h l, le-ltb c (2 ^ p) r);
            low = pow_pos (p - 1);
            most = omega (arith, field_end p w some field);
            same = rw (ne_eqb (k + 2) 0 (λ z. omega arith), e, j, pow-add 2 k 1) (omega arith);
            even = λ z. omega arith;
          }
      go (no l) d =
          let m : c < h = omega arith in
          let z : k ≡ 0 = none (dec_le 1 k) in
          record {
            e = 0;
            t = c;
            made = rw (lt-ltb c h m);
            low = m;
            most = omega (arith, field_end p w some field);
            same = rw z (omega arith);
            even = λ q. q;
          }
        where
          none : Dec (1 ≤ k) → k ≡ 0
          none (yes q) = absurd (l (lead q))
          none (no q) = omega arith

-- ---- the pattern stands for the rounded number, for every n and F
module _ (p w : ℕ) (some : 2 ≤ p) (field : 2 ≤ w) (neg : Bool) (n f : ℕ) where
  abbrev b : Binary
  b = binary p w

  pub fields-of : nearest_steps b n f < past b → Fields p w neg (significand b n f) (unit b n f)
  unfolding nearest_steps
  fields-of below =
      fields p w some field neg (significand b n f) (unit b n f)
      (significand-most b n f) (significand-least b n f (omega arith)) below

  pub pattern-finite : nearest_steps b n f < past b → pattern_value b (pattern_of b neg n f) ≡ finite neg (nearest_steps b n f)
  unfolding pattern_of of_fields nearest_steps
  pattern-finite below =
      let r = fields-of below in
      let value = joined-value p w neg r.e r.t r.low (omega (arith, r.most)) in
      rw (lt-ltb (nearest_steps b n f) (past b) below, r.made, value)
      (rw (ne_eqb r.e (2 ^ w - 1) (λ z. omega (arith, r.most)), r.same))

  pub pattern-infinite : past b ≤ nearest_steps b n f → pattern_value b (pattern_of b neg n f) ≡ infinite neg
  unfolding pattern_of of_fields
  pattern-infinite above =
      let value = joined-value p w neg (2 ^ w - 1) 0 (pow_pos (p - 1)) (omega (arith, pow_pos w)) in
      rw (le-ltb (nearest_steps b n f) (past b) above, value)
      (rw (eq-eqb (2 ^ w - 1) (2 ^ w - 1) refl))

  pub pattern-rounded : pattern_value b (pattern_of b neg n f) ≡ rounded_value b neg n f
  unfolding rounded_value
  pattern-rounded = go (dec_le (suc (nearest_steps b n f)) (past b))
    where
      go : Dec (nearest_steps b n f < past b) → pattern_value b (pattern_of b neg n f) ≡ rounded_value b neg n f
      go (yes h) = pattern-finite h ∙ sym (rw (lt-ltb (nearest_steps b n f) (past b) h))
      go (no h) =
          let m : past b ≤ nearest_steps b n f = omega arith in
          pattern-infinite m ∙ sym (rw (le-ltb (nearest_steps b n f) (past b) m))

-- a number of a fixed-point format is far below the largest number
module _ (p w n f : ℕ) (room : Roomy p w) (word : n < 2 ^ 64) (frac : f ≤ 64) (neg : Bool) where
  pub pattern-value : pattern_value (binary p w) (pattern_of (binary p w) neg n f) ≡ finite neg (nearest_steps (binary p w) n f)
  unfolding nearest_steps
  pattern-value = pattern-finite p w room.small.some (omega (arith, room.roomy)) neg n f (below (dec_le 1 n))
    where
      below : Dec (1 ≤ n) → nearest_steps (binary p w) n f < past (binary p w)
      below (yes k) = steps-below p w n f (64 - count_leading_zeros 64 n) room (digits-of n k word) frac
      below (no k) =
          rw (significand-zero (binary p w) n f (omega arith))
          (omega (arith, pow_pos (least (binary p w) + bias (binary p w) + 1)))

-- ---- n has at most p significant bits: all others are zeros at its end
pub record Short (p n : ℕ) : Type 0 where
  pub leading : ℕ
  pub zeros : ℕ
  pub made : n ≡ leading * 2 ^ zeros
  pub few : leading < 2 ^ p

-- as it is where n itself has no more than p
pub narrow : (p n : ℕ) → n < 2 ^ p → Short p n
narrow p n h = record { leading = n; zeros = 0; made = omega arith; few = h }

-- then nothing is rounded
module _ (p n d : ℕ) (short : Short p n) (digits : Digits n d) where
  kept : nearest_even (n * 2 ^ p) (2 ^ d) * 2 ^ d ≡ n * 2 ^ p
  kept = go (dec_le d p)
    where
      t : ℕ
      t = short.zeros

      go : Dec (d ≤ p) → nearest_even (n * 2 ^ p) (2 ^ d) * 2 ^ d ≡ n * 2 ^ p
      go (yes h) = rw (scaled-few p n d h, power-sub d p h) (omega arith)
      go (no h) = pick (dec_le d (p + t))
        where
          pick : Dec (d ≤ p + t) → nearest_even (n * 2 ^ p) (2 ^ d) * 2 ^ d ≡ n * 2 ^ p
          pick (yes l) =
              let m = short.leading * 2 ^ ((p + t) - d) in
              let powers : 2 ^ t * 2 ^ p ≡ 2 ^ ((p + t) - d) * 2 ^ d = sym (pow-add 2 t p) ∙ ap (λ (k : ℕ). 2 ^ k) (omega arith) ∙ power-sub d (p + t) l in
              let same : n * 2 ^ p ≡ m * 2 ^ d =
              ap (λ (v : ℕ). v * 2 ^ p) short.made ∙ omega (arith, ap (λ (v : ℕ). short.leading * v) powers) in
              ap (λ (v : ℕ). v * 2 ^ d) (ap (λ (v : ℕ). nearest_even v (2 ^ d)) same ∙ nearest-exact m (2 ^ d) (pow_pos d)) ∙ sym same
          pick (no l) =
              let more : short.leading * 2 ^ t < 2 ^ p * 2 ^ t = mul-lt-mul_of_pos_right short.few (pow_pos t) in
              let high : n < 2 ^ (p + t) = omega (arith, short.made, pow-add 2 p t) in
              absurd (omega (arith, high, digits.low, pow_mono {i = p + t} {j = d - 1} (omega arith)))

module _ (p w n f : ℕ) (room : Roomy p w) (word : n < 2 ^ 64) (frac : f ≤ 64) (short : Short p n) where
  -- d is a variable here: written out, the count of n's digits is computed at every step
  steps-some : (d : ℕ) → Digits n d → nearest_steps (binary p w) n f * 2 ^ f ≡ n * 2 ^ least (binary p w)
  unfolding nearest_steps
  steps-some d digits =
      let l = least (binary p w) in
      let g = (l - f) - p in
      let room-left = roomy-least p w room in
      let places : unit (binary p w) n f ≡ d + g = unit-is p w n f d room digits frac ∙ omega arith in
      let sum : l ≡ (p + g) + f = omega arith in
      let left : 2 ^ unit (binary p w) n f ≡ 2 ^ d * 2 ^ g = ap (λ (i : ℕ). 2 ^ i) places ∙ pow-add 2 d g in
      let right : 2 ^ l ≡ 2 ^ p * 2 ^ g * 2 ^ f = ap (λ (i : ℕ). 2 ^ i) sum ∙ pow-add 2 (p + g) f ∙ ap (λ (v : ℕ). v * 2 ^ f) (pow-add 2 p g) in
      rw (significand-is p w n f d room digits frac, left, right)
      (omega (arith, ap (λ (v : ℕ). v * (2 ^ g * 2 ^ f)) (kept p n d short digits)))

  -- the rounded number is n / 2^f itself
  pub steps-exact : nearest_steps (binary p w) n f * 2 ^ f ≡ n * 2 ^ least (binary p w)
  unfolding nearest_steps
  steps-exact = go (dec_le 1 n)
    where
      go : Dec (1 ≤ n) → nearest_steps (binary p w) n f * 2 ^ f ≡ n * 2 ^ least (binary p w)
      go (yes k) = steps-some (64 - count_leading_zeros 64 n) (digits-of n k word)
      go (no k) =
          let z : n ≡ 0 = omega arith in
          rw (significand-zero (binary p w) n f z, z) (omega arith)

-- ---- to a pattern and back
in-word : (s : Sign) (w : ℕ) (a : ℤ) → w ≤ 64 → InRange s w a → nat_abs a < 2 ^ 64
in-word s w (pos n) h r = omega (kit, r.high, highest-out s w, limit-word s w false h)
in-word s w (negsuc n) h r = omega (kit, r.low, lowest-out s w, limit-word s w true h)

pub sign-back : (a : ℤ) → with_sign (lt_z a (pos 0)) (nat_abs a) ≡ a
unfolding with_sign
sign-back (pos n) = rw (le-ltb n 0 (omega arith))
sign-back (negsuc n) = refl

-- the identity, in each manner, on every raw whose number has at most p significant bits
module _ (p w : ℕ) (room : Roomy p w) (k : Manner) (s : Sign) (v f : ℕ) (a : ℤ) (format : fault_of v f ≡ 0) (range : InRange s v a)
    (short : Short p (nat_abs a)) where
  pub there_and_back : from_float_of (binary p w) k s v f (pattern_of (binary p w) (lt_z a (pos 0)) (nat_abs a) f) ≡ done a false
  unfolding of_value raw_of_steps
  there_and_back =
      let b = binary p w in
      let n = nat_abs a in
      let free = fault-free v f format in
      let bounds = width-bounds v free.0 in
      let frac : f ≤ 64 = omega (arith, free.1) in
      let word = in-word s v a bounds.1 range in
      let x = pattern_of b (lt_z a (pos 0)) n f in
      let raw : nearest_even (nearest_steps b n f * 2 ^ f) (2 ^ least b) ≡ n =
      ap (λ (m : ℕ). nearest_even m (2 ^ least b)) (steps-exact p w n f room word frac short) ∙ nearest-exact n (2 ^ least b) (pow_pos (least b)) in
      unless-none (fault_of v f) (of_value b k s v f (pattern_value b x)) format
      ∙ ap (of_value b k s v f) (pattern-value p w n f room word frac (lt_z a (pos 0)))
      ∙ ap (λ (m : ℕ). settle k s v (with_sign (lt_z a (pos 0)) m)) raw
      ∙ ap (settle k s v) (sign-back a)
      ∙ settle-fits s v a k (omega arith) range

-- both formats have that room: 24 and 53 significant bits
pub roomy-32 : Roomy 24 8
roomy-32 = record { small = record { some = omega arith; most = omega arith; field-some = omega arith; field-most = omega arith }; roomy = omega arith }

pub roomy-64 : Roomy 53 11
roomy-64 = record { small = record { some = omega arith; most = omega arith; field-some = omega arith; field-most = omega arith }; roomy = omega arith }
