-- Exact where the target has the bits, and back again; and two steps through a format that loses nothing which the target would keep.
-- Assumes nothing.
use Rattle.std.specs.Prelude.{◌≡◌, ◌⊎◌, false, ℕ, ◌+◌, ◌-◌, ◌^◌, ◌≤◌, ℤ, pos, ◌*ℤ◌}
use Rattle.std.proofs.Common.{sym, ap, ap₂, ◌∙◌, subst, inl, inr, arith, mul_comm, pow_pos, pow-add}
use Rattle.std.proofs.Math.Decide.{dec_le}
use Rattle.laws.specs.Floor.{floor, shr_z-exact, shr_z-shr_z}
use Rattle.laws.specs.Powers.{power-sub}
use Rattle.laws.specs.Ring.{*ℤ-assoc}
use Rattle.format.specs.declared.Manner.{Manner}
use Rattle.format.specs.Meaning.{Sign, fault_of, settle, unless, done}
use Rattle.format.specs.Fault.{fault-free, width-bounds}
use Rattle.format.specs.Settle.{unless-none}
use Rattle.format.specs.Theorems.{InRange}
use Rattle.format.proofs.Theorems.{settle-fits}
use Rattle.convert.specs.Fault.{formats-free}
use Rattle.convert.specs.Meaning.{formats_fault, steps_of, convert_of}
use Rattle.convert.specs.Theorems.{scaled, steps-more, steps-fewer}

-- ---- exact where the target has the bits: the value is kept, x / 2^f = a / 2^ff
pub value-kept : (ff f : ℕ) (a : ℤ) → ff ≤ f → steps_of ff f a *ℤ pos (2 ^ ff) ≡ a *ℤ pos (2 ^ f)
value-kept ff f a h =
    ap (λ (z : ℤ). z *ℤ pos (2 ^ ff)) (steps-more ff f a h)
    ∙ *ℤ-assoc a (pos (2 ^ (f - ff))) (pos (2 ^ ff))
    ∙ ap (λ (n : ℕ). a *ℤ pos n) (sym (power-sub ff f h))

-- ---- through a format between that has as many fraction bits as the one or the other, the steps are the same
pub steps-through : (ff fm f : ℕ) (a : ℤ) → (ff ≤ fm) ⊎ (f ≤ fm) → steps_of fm f (steps_of ff fm a) ≡ steps_of ff f a
steps-through ff fm f a c = pick (dec_le ff fm) c
  where
    -- all bits are kept on the way
    keeps : ff ≤ fm → steps_of fm f (steps_of ff fm a) ≡ steps_of ff f a
    keeps h =
        let x = 2 ^ (fm - ff) in
        let y = 2 ^ f in
        let turned : (a *ℤ pos x) *ℤ pos y ≡ (a *ℤ pos y) *ℤ pos x =
        *ℤ-assoc a (pos x) (pos y) ∙ ap (λ (n : ℕ). a *ℤ pos n) (mul_comm x y) ∙ sym (*ℤ-assoc a (pos y) (pos x)) in
        ap (λ (z : ℤ). steps_of fm f z) (steps-more ff fm a h)
        ∙ ap₂ floor turned (power-sub ff fm h)
        ∙ scaled (a *ℤ pos y) x (2 ^ ff) (pow_pos (fm - ff))

    -- the bits are dropped in two turns
    drops : fm ≤ ff → f ≤ fm → steps_of fm f (steps_of ff fm a) ≡ steps_of ff f a
    drops h l =
        let e : ff - f ≡ (ff - fm) + (fm - f) = omega arith in
        ap (λ (z : ℤ). steps_of fm f z) (steps-fewer ff fm a h)
        ∙ steps-fewer fm f (floor a (2 ^ (ff - fm))) l
        ∙ shr_z-shr_z a (2 ^ (ff - fm)) (2 ^ (fm - f))
        ∙ ap (λ (n : ℕ). floor a n) (sym (ap (λ (k : ℕ). 2 ^ k) e ∙ pow-add 2 (ff - fm) (fm - f)))
        ∙ sym (steps-fewer ff f a (omega arith))

    pick : Dec (ff ≤ fm) → (ff ≤ fm) ⊎ (f ≤ fm) → steps_of fm f (steps_of ff fm a) ≡ steps_of ff f a
    pick (yes h) c = keeps h
    pick (no h) (inl l) = keeps l
    pick (no h) (inr l) = drops (omega arith) l

back-same : (ff f : ℕ) (a : ℤ) → ff ≤ f → steps_of f ff (steps_of ff f a) ≡ a
back-same ff f a h = steps-through ff f ff a (inl h) ∙ shr_z-exact a (2 ^ ff) (pow_pos ff)

-- ---- the same of the outcomes
settled : (k : Manner) (s : Sign) (fw ff w f : ℕ) (a : ℤ) → fault_of fw ff ≡ 0 → fault_of w f ≡ 0 → InRange s w (steps_of ff f a)
    → convert_of k s fw ff w f a ≡ done (steps_of ff f a) false
settled k s fw ff w f a p q r =
    let b = width-bounds w (fault-free w f q).0 in
    unless-none (formats_fault fw ff w f) (settle k s w (steps_of ff f a)) (formats-free fw ff w f p q)
    ∙ settle-fits s w (steps_of ff f a) k (omega arith) r

-- what fits is answered as it is in each manner, flag clear; and where the target has the bits, back again is the identity
module _ (s t : Sign) (fw ff w f : ℕ) (from : fault_of fw ff ≡ 0) (to : fault_of w f ≡ 0) (a : ℤ) (there : InRange t w (steps_of ff f a)) where
  pub convert-fits : (k : Manner) → convert_of k t fw ff w f a ≡ done (steps_of ff f a) false
  convert-fits k = settled k t fw ff w f a from to there

  pub there_and_back : (k : Manner) → ff ≤ f → InRange s fw a → convert_of k s w f fw ff (steps_of ff f a) ≡ done a false
  there_and_back k h r =
      let e = back-same ff f a h in
      settled k s w f fw ff (steps_of ff f a) to from (subst (InRange s fw) (sym e) r) ∙ ap (λ (z : ℤ). done z false) e

-- two conversions are one, whatever the target and its manner, where the format between holds the number and has as many fraction bits as
-- the first or the last
module _ (m : Sign) (fw ff wm fm : ℕ) (from : fault_of fw ff ≡ 0) (mid : fault_of wm fm ≡ 0) (a : ℤ) (holds : InRange m wm (steps_of ff fm a)) where
  pub in-two-steps : (j k : Manner) (s : Sign) (w f : ℕ) → fault_of w f ≡ 0 → (ff ≤ fm) ⊎ (f ≤ fm)
      → (convert_of j m fw ff wm fm a ≡ done (steps_of ff fm a) false) × (convert_of k s wm fm w f (steps_of ff fm a) ≡ convert_of k s fw ff w f a)
  in-two-steps j k s w f to c = (
    settled j m fw ff wm fm a from mid holds,
    ap₂ (λ (n : ℕ) (z : ℤ). unless n (settle k s w z)) (formats-free wm fm w f mid to ∙ sym (formats-free fw ff w f from to)) (steps-through ff fm f a c),
  )
