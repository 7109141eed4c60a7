-- `sum::hold` meets its contract: clamped, a number is held, and the flag is set exactly where that is another number. Assumes nothing.
use Rattle.std.proofs.Common.{◌≡◌, refl, sym, ◌∙◌, Bool, true, false, not, ℤ, pos, negsuc, eqb, arith, SFits, to_z, of_z, w16, w64}
use Rattle.std.specs.Int.{int_max, int_min}
use Rattle.std.proofs.Math.Facts.{to_z-of_z, sfits_widen}
use Rattle.std.proofs.lemmas.Int.{ints, clamps}
use Rattle.laws.specs.Signed.{of_z-inj}
use borrow.Author.Tests.{eqb-true}
use Rattle.format.specs.Meaning.{lowest, highest, hold}
use Rattle.filter.specs.Meaning.{held, clips}
use Rattle.filter.specs.Range.{sample-sfits, sample-keeps, unclipped, held-sample}
use Rattle.filter.specs.Theorems.{clips-changed}
use Rattle.filter.proofs.sum.hold.Goals as goal

clamped : (y : ℤ) → int_max (negsuc 32767) (int_min y (pos 32767)) ≡ held y
unfolding held hold lowest highest
clamped y = grind (arith, ints, clamps)

-- the flag, with the two numbers compared as words
flagged : (y r : ℤ) → SFits w64 y → SFits w64 r → r ≡ held y → not (eqb (of_z w64 r) (of_z w64 y)) ≡ clips y
flagged y r f g e = go (eqb (of_z w64 r) (of_z w64 y)) refl (clips y) refl
  where
    go : (a : Bool) → eqb (of_z w64 r) (of_z w64 y) ≡ a → (b : Bool) → clips y ≡ b → not a ≡ b
    go true p true q = absurd ((clips-changed y).0 q (sym e ∙ of_z-inj g f (eqb-true _ _ p)))
    go true p false q = refl
    go false p true q = refl
    go false p false q =
        let same : r ≡ y = e ∙ (sample-keeps y (unclipped y q)).1 in
        let words : of_z w64 r ≡ of_z w64 y = rw same refl in
        grind arith

pub returns : goal.returns
returns c =
    let y = c.args.y in
    let fits = sample-sfits (held y) (held-sample y) in
    let value : c.clamp-value.result ≡ held y = c.clamp-value.ensures.value ∙ (rw (to_z-of_z {w = w64} c.ranges.y) (clamped y)) in
    let word : to_z w64 (of_z w64 c.clamp-value.result) ≡ held y = rw value (to_z-of_z {w = w64} (sfits_widen tt fits)) in
    let same : c.from.result ≡ held y = c.from.ensures ∙ (rw word (to_z-of_z {w = w16} fits)) in
    rw (word, to_z-of_z {w = w16} fits, flagged y c.from.result c.ranges.y (rw same (sfits_widen tt fits)) same) refl
