-- The guess of the raw's leading zeros (`Leading.antt`) and one more where the next power of ten is reached (`Mend.antt`).
use mathlib.Core.Path.{◌≡◌, ap, ◌∙◌}
use mathlib.Core.Bool.{Bool, true, false}
use Prim.Native.Nat.{ℕ, ◌+◌, ◌≤◌}
use native.Mathlib.Omega.{arith}
use lib.Count.{leading_top}
use lib.IntN.{ℤ, pos, ◌-ℤ◌}
use mir.Syntax.{w64}
use mir.Val.{bool_byte, SFits, to_z, of_z}
use mir.Facts.{to_z-of_z}
use Rattle.laws.specs.Diff.{sub_out}
use Rattle.laws.specs.Signed.{signed, ok-back}
use Rattle.format.specs.declared.shape.Format.{Format}
use Rattle.format.specs.Fault.{width-bounds}
use Rattle.log10.proofs.Leading.{fives-fit}
use Rattle.log10.proofs.Mend.{mended}
use Rattle.log10.proofs.of_positive.Goals as goal

one_at_most : (t : Bool) → bool_byte t ≤ 1
one_at_most true = omega arith
one_at_most false = omega arith

-- the fraction bits of a format are at most a word's
frac-word : (x : Format) → x.frac ≤ 64
frac-word x = omega (arith, (width-bounds x.width x.one_of_four).1, x.within)

pub guess-guess-requires : goal.guess-guess-requires
guess-guess-requires c = (omega (arith, (leading_top 64 c.args.raw c.requires c.ranges.raw.fits).1), frac-word c.args.format)

pub next_reached-requires : goal.next_reached-requires
next_reached-requires c =
    let e = c.guess-guess.ensures in
    let fit = fives-fit c.args.raw c.args.format.frac c.guess-guess.result c.requires c.ranges.raw.fits (frac-word c.args.format) (e.0, e.1) in
    (e.2, e.3, e.4, fit)

pub overflow_add-power : goal.overflow_add-power
overflow_add-power c = omega (arith, one_at_most c.next_reached.result, c.from.ensures, c.guess-guess.ensures)

-- the power as a signed number, and that 20 less is one too
module _ (c : goal.After-from-2) where
  abbrev n : ℕ
  n = c.guess-guess.result + bool_byte c.next_reached.result

  less : to_z w64 (of_z w64 c.from-2.result) -ℤ pos 20 ≡ pos n -ℤ pos 20
  less =
      ap (λ (z : ℤ). z -ℤ pos 20)
      (ok-back w64 c.from-2.result c.from-2.type_inv ∙ c.from-2.ensures ∙ ap (λ (k : ℕ). pos (c.guess-guess.result + k)) c.from.ensures)

  less-fits : SFits w64 (to_z w64 (of_z w64 c.from-2.result) -ℤ pos 20)
  less-fits = rw less (omega (signed, one_at_most c.next_reached.result, c.guess-guess.ensures, sub_out (pos n) (pos 20)))

pub overflow_sub-result : goal.overflow_sub-result
overflow_sub-result c = less-fits c

pub returns : goal.returns
returns c =
    let g = c.guess-guess in
    let e = g.ensures in
    let t = c.next_reached in
    to_z-of_z (less-fits c) ∙ less c
    ∙ mended c.args.raw c.args.format.frac g.result c.requires c.ranges.raw.fits (frac-word c.args.format) (e.0, e.1) t.result t.ensures
