-- A number that the scanner found, handed to the core of its radix: its digits are those of one stretch of the text. Assumes nothing.
use Rattle.std.specs.Prelude.{◌≡◌, refl, ◌⊎◌, Bool, true, false, ◌||◌, ℕ, ◌+◌, ◌-◌, ◌*◌, ◌^◌, ◌≤◌, ◌<◌, eqb, length, drop}
use Rattle.std.proofs.Math.Path.{sym, ap, ap₂}
use Rattle.std.proofs.Common.{◌∙◌, subst, inl, inr, arith, length-append, length-take, length-drop, eqb-true}
use Rattle.std.proofs.Math.Bool.{cond}
use Rattle.std.proofs.lemmas.Bool.{false≢true}
use mathlib.Core.List.{List, Memᴰ}
use Rattle.std.proofs.Math.Nat.{pow-zero}
use Rattle.laws.specs.Nearest.{nearest_even}
use Rattle.grammar.specs.Meaning.{exp_limit, num, den, raw_of, is_radix, text_limit}
use Rattle.grammar.specs.Automaton.{NumberPart, whole, fraction, exponent}
use Rattle.grammar.specs.Naturals.{nat_of}
use Rattle.grammar.specs.Accepted.{TenIs, sound-exp, sound-bases}
use Rattle.laws.specs.Lists.{part}
use Rattle.grammar.specs.Run.{body_of}
use Rattle.scan.specs.Found.{run_digits, written_of}
use Rattle.scan.specs.declared.Parsed.{Parsed}
use Rattle.fold.specs.Body.{as_written, body-length}
use Rattle.bits.specs.Bits.{Legal}
use Rattle.tens.specs.Point.{decimal}
use Rattle.text.specs.Read.{Readable}

radix-bits : (radix : ℕ) → is_radix radix ≡ true → (radix ≡ 10 → ⊥) → (radix ≡ 2) ⊎ (radix ≡ 8) ⊎ (radix ≡ 16)
unfolding is_radix
radix-bits radix h n = go (eqb radix 2) (eqb radix 8) (eqb radix 10) (eqb radix 16) refl refl refl refl h
  where
    go : (a b c d : Bool) → eqb radix 2 ≡ a → eqb radix 8 ≡ b → eqb radix 10 ≡ c → eqb radix 16 ≡ d → (a || b || c || d) ≡ true
        → (radix ≡ 2) ⊎ (radix ≡ 8) ⊎ (radix ≡ 16)
    go true b c d e f g h t = inl (eqb-true radix 2 e)
    go false true c d e f g h t = inr (inl (eqb-true radix 8 f))
    go false false true d e f g h t = absurd (n (eqb-true radix 10 g))
    go false false false true e f g h t = inr (inr (eqb-true radix 16 h))
    go false false false false e f g h t = absurd (false≢true t)

limit-le : (down : Bool) → exp_limit down ≤ 2 ^ 31
limit-le true = omega arith
limit-le false = omega arith

module _ (t : List ℕ) (p : Parsed) (radix frac : ℕ) (h : Readable t p radix frac) where
  pub digits_same : body_of (part t p.whole.from p.frac.to) ≡ (written_of t p).digits
  unfolding written_of
  digits_same = h.ready.stretch.both

  pub digits-count : p.whole.digits + p.frac.digits ≡ length (body_of (part t p.whole.from p.frac.to))
  digits-count =
      let w = h.ready.whole-counted in
      let f = h.ready.frac-counted in
      omega (arith, w, f, length-append (run_digits t p.whole) (run_digits t p.frac), ap length h.ready.stretch.both)

  body-short : length (part t p.whole.from p.frac.to) ≤ text_limit
  body-short =
      omega (arith, length-take (p.frac.to - p.whole.from) (drop p.whole.from t), length-drop p.whole.from t, h.short)

  pub digits-fit : p.whole.digits + p.frac.digits < 2 ^ 64
  digits-fit = omega (arith, digits-count, body-length (part t p.whole.from p.frac.to), body-short)

  digit-below : (d : ℕ) → Memᴰ d (body_of (part t p.whole.from p.frac.to)) → d < radix
  digit-below d m = h.sound.below d (subst (λ (l : List ℕ). Memᴰ d l) digits_same m)

  exp-small : p.exp ≤ 2 ^ 31
  unfolding written_of
  exp-small = omega (arith, sound-exp h.sound, limit-le p.down)

  pub legal-bits : (radix ≡ 10 → ⊥) → Legal (part t p.whole.from p.frac.to) (p.whole.digits + p.frac.digits) p.frac.digits radix p.base
      p.exp frac
  unfolding written_of
  legal-bits n =
      record {
        count = digits-count;
        short = body-short;
        within = omega arith;
        radix-is = radix-bits radix h.legal n;
        base-is = sound-bases h.sound;
        below = digit-below;
        small = exp-small;
        room = h.room;
      }

  pub legal-tens :
      radix ≡ 10 →
      (p.whole.digits + p.frac.digits ≡ length (body_of (part t p.whole.from p.frac.to))) × (p.frac.digits ≤ p.whole.digits + p.frac.digits)
      × ((d : ℕ) → Memᴰ d (body_of (part t p.whole.from p.frac.to)) → d < 10) × (p.exp ≤ 2147483648) × (frac ≤ 64)
      × (length (part t p.whole.from p.frac.to) ≤ text_limit)
  legal-tens e = (digits-count, omega arith, λ d m. subst (λ (r : ℕ). d < r) e (digit-below d m), exp-small, h.room, body-short)

  -- the raw does not look at the sign
  pub raw-bits : raw_of radix frac (as_written (part t p.whole.from p.frac.to) p.frac.digits p.base p.down p.exp)
      ≡ raw_of radix frac (written_of t p)
  unfolding raw_of num den written_of
  raw-bits =
      ap₂ (λ (ds : List ℕ) (k : ℕ). nearest_even (nat_of radix ds * cond p.down 1 (p.base ^ p.exp) * 2 ^ frac)
      (radix ^ k * cond p.down (p.base ^ p.exp) 1)) digits_same h.ready.frac-counted

  -- a decimal exponent scales by ten; without a mark there is none
  ten-power : radix ≡ 10 → 10 ^ p.exp ≡ p.base ^ p.exp
  unfolding written_of
  ten-power e = go h.place (h.sound.ten-is e)
    where
      go : (a : NumberPart) → TenIs a p.base p.exp → 10 ^ p.exp ≡ p.base ^ p.exp
      go whole z = ap (λ (k : ℕ). 10 ^ k) z ∙ sym (pow-zero p.base) ∙ sym (ap (λ (k : ℕ). p.base ^ k) z)
      go fraction z = ap (λ (k : ℕ). 10 ^ k) z ∙ sym (pow-zero p.base) ∙ sym (ap (λ (k : ℕ). p.base ^ k) z)
      go exponent z = ap (λ (b : ℕ). b ^ p.exp) (sym z)

  pub raw-tens : radix ≡ 10 → raw_of 10 frac (decimal (body_of (part t p.whole.from p.frac.to)) p.frac.digits p.down p.exp)
      ≡ raw_of radix frac (written_of t p)
  unfolding raw_of num den
  raw-tens e =
      ap (λ (b : ℕ). nearest_even (nat_of 10 (body_of (part t p.whole.from p.frac.to)) * cond p.down 1 b * 2 ^ frac)
      (10 ^ p.frac.digits * cond p.down b 1)) (ten-power e)
      ∙ ap (λ (r : ℕ). raw_of r frac (as_written (part t p.whole.from p.frac.to) p.frac.digits p.base p.down p.exp)) (sym e)
      ∙ raw-bits
