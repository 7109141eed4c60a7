-- The four manners from what the code finds of a number: whether its magnitude is within the limit on its side, the magnitude held
-- to that limit, and the raw that the residue stands for. One law a manner, over the width and the sign. Assumes nothing.
use Rattle.std.specs.Prelude.{◌≡◌, Bool, true, false, ℕ, ◌-◌, ◌^◌, ◌≤◌, ◌<◌, ℤ, pos}
use Rattle.std.proofs.Math.Path.{refl, sym, ap}
use Rattle.std.proofs.Common.{◌∙◌, true≢false, arith, pow_pos, SFits}
use Rattle.std.specs.Int.{w64}
use borrow.Author.Tests.{eq-eqb, ne_eqb}
use Rattle.laws.specs.Bound.{sfits-in}
use Rattle.laws.specs.Diff.{up}
use Rattle.format.specs.Meaning.{Sign, signed, unsigned, wrap, settle, unless, with_sign, exact, Outcome, done, refused, guarded}
use Rattle.format.specs.Meaning.{is_width}
use Rattle.format.specs.Fault.{width-bounds, half-word}
use Rattle.format.specs.Theorems.{limit}
use Rattle.format.specs.Place.{sign-out, residue, residue-wraps, resigned, resigned-wraps}
use Rattle.format.specs.declared.Manner.TheVariants.{Wrapping}

-- the limits as the code computes them, h half of 2^W and t the highest unsigned raw
module _ (w : ℕ) {neg : Bool} where
  pub limit-below : {h : ℕ} → neg ≡ true → h ≡ 2 ^ (w - 1) → h ≡ limit signed w neg
  unfolding limit
  limit-below t e = rw t e

  pub limit-above : {h : ℕ} → neg ≡ false → h ≡ 2 ^ (w - 1) → h - 1 ≡ limit signed w neg
  unfolding limit
  limit-above t e = rw (t, e)

  pub limit-none : neg ≡ true → 0 ≡ limit unsigned w neg
  unfolding limit
  limit-none t = rw t

  pub limit-top : {t : ℕ} → neg ≡ false → t ≡ 2 ^ w - 1 → t ≡ limit unsigned w neg
  unfolding limit
  limit-top t e = rw t e

-- the signed limits, one below the other
pub limit-half : (w : ℕ) (neg : Bool) → (neg ≡ true → limit signed w neg ≡ 2 ^ (w - 1)) × (neg ≡ false → limit signed w neg < 2 ^ (w - 1)) × (limit signed w neg ≤ 2 ^ (w - 1))
unfolding limit
limit-half w true = (λ t. refl, λ t. absurd (true≢false t), omega arith)
limit-half w false = (λ t. absurd (true≢false (sym t)), λ t. omega (arith, pow_pos (w - 1)), omega arith)

-- a magnitude held to the signed limit fits a signed word
pub held_fits : (w : ℕ) (neg : Bool) {l held : ℕ} → is_width w ≡ true → l ≡ limit signed w neg → held ≤ l → SFits w64 (with_sign neg held)
unfolding limit
held_fits w true {held = held} h e p =
    let b = half-word w (width-bounds w h).1 in
    sfits-in w64 (with_sign true held) (omega (arith, sign-out true held)) (omega (arith, sign-out true held, e, p))
held_fits w false {held = held} h e p =
    let b = half-word w (width-bounds w h).1 in
    sfits-in w64 (with_sign false held) (omega (arith, sign-out false held, e, p, pow_pos (w - 1))) (omega (arith, sign-out false held))

-- held to the unsigned limit, a negative number is 0
pub held_up : (w : ℕ) (neg : Bool) {l held : ℕ} → l ≡ limit unsigned w neg → held ≤ l → held ≡ up (with_sign neg held)
unfolding limit
held_up w true {held = held} e p = omega (arith, sign-out true held, e, p)
held_up w false {held = held} e p = omega (arith, sign-out false held)

pub wrapping-done : (s : Sign) (w : ℕ) (x : ℤ) {y : ℤ} → y ≡ wrap s w x → settle Wrapping s w x ≡ done y false
unfolding settle
wrapping-done s w x e = ap (λ (z : ℤ). done z false) (sym e)

-- the raw that the residue stands for
module _ (w : ℕ) (neg : Bool) (high low : ℕ) {u : ℕ} (width : is_width w ≡ true) (e : u ≡ residue neg low w) where
  pub bits-unsigned : pos u ≡ wrap unsigned w (exact neg high low)
  bits-unsigned =
      let b = width-bounds w width in
      ap pos e ∙ residue-wraps high low w (omega arith) (omega arith) neg

  pub bits-signed : resigned u w ≡ wrap signed w (exact neg high low)
  bits-signed =
      let b = width-bounds w width in
      resigned-wraps w u (exact neg high low) (omega arith) bits-unsigned

-- the format's refusal goes first
pub unless-fault : (n : ℕ) (o : Outcome) → (n ≡ 0 → ⊥) → unless n o ≡ refused n
unfolding guarded
unless-fault n o h = rw (ne_eqb n 0 h)

pub unless-none : (n : ℕ) (o : Outcome) → n ≡ 0 → unless n o ≡ o
unfolding guarded
unless-none n o h = rw (eq-eqb n 0 h)
