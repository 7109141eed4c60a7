-- After a run of digits, before the mark: what the scan makes of the byte in front of which the run ended, by its class. Assumes nothing.
use Rattle.std.specs.Prelude.{◌≡◌, Bool, cond, ◌&&◌, List, ◌∷◌, eqb}
use Rattle.std.proofs.Math.Path.{refl, ap}
use Rattle.std.proofs.Common.{sym, ◌∙◌, true≢false, arith}
use Rattle.std.proofs.Math.Bool.{true, false}
use Prim.Native.Nat.{ℕ, zero, suc}
use Rattle.format.specs.declared.refusal.Refusal.TheVariants.{InvalidDigit, MisplacedUnderscore}
use Rattle.format.specs.Meaning.{number as number_of}
use Rattle.grammar.specs.Meaning.{is_sign, is_mark, Written, Reading, unread, with_base}
use Rattle.grammar.specs.Automaton.{is_digit, base_of, whole, fraction, exponent, Seen, nothing, Scan, at}
use Rattle.grammar.specs.Automaton.{refuse, step, scan, on_sign, on_point, on_underscore, on_mark, on_other}
use Rattle.grammar.specs.Class.{class_of}
use Rattle.grammar.specs.Run.{sep_of, part_of, seen_after}
use Rattle.grammar.specs.Reading.{reading, on_class, read_next, read-refused, opened}
use Rattle.grammar.specs.declared.byte.Class.{Class}
use Rattle.grammar.specs.declared.byte.Class.TheVariants.{Sign, Point, Underscore, Mark, Other}

unfoldable pub under_number : Bool → ℕ
under_number true = 14
under_number false = 13

-- the byte in front of which the run ended, by its class; a point in the whole part is not among them
unfoldable pub after_run : Class → Bool → ℕ → List ℕ → Written → Reading
after_run Sign skip radix t x = unread 12
after_run Point skip radix t x = unread 15
after_run Underscore skip radix t x = unread (under_number skip)
after_run (Mark base) skip radix t x = reading (sep_of skip) radix t (at exponent nothing (with_base x base))
after_run Other skip radix t x = unread 13

-- the class of a point is its own, and so is that of `_`
class-point : (radix b : ℕ) → class_of radix b ≡ Point → eqb b 46 ≡ true
unfolding class_of
class-point radix b e = go (is_sign b) (eqb b 46) (eqb b 95) (is_mark radix b) e
  where
    go : (s d u m : Bool) → cond s Sign (cond d Point (cond u Underscore (cond m (Mark (base_of radix b)) Other))) ≡ Point → d ≡ true
    go true d u m e = let z : ◌≡◌ {A = ℕ} 0 1 = cc in absurd (omega arith)
    go false true u m e = refl
    go false false true m e = let z : ◌≡◌ {A = ℕ} 0 1 = cc in absurd (omega arith)
    go false false false true e = let z : ◌≡◌ {A = ℕ} 0 1 = cc in absurd (omega arith)
    go false false false false e = let z : ◌≡◌ {A = ℕ} 0 1 = cc in absurd (omega arith)

class-under : (radix b : ℕ) → class_of radix b ≡ Underscore → eqb b 95 ≡ true
unfolding class_of
class-under radix b e = go (is_sign b) (eqb b 46) (eqb b 95) (is_mark radix b) e
  where
    go : (s d u m : Bool) → cond s Sign (cond d Point (cond u Underscore (cond m (Mark (base_of radix b)) Other))) ≡ Underscore → u ≡ true
    go true d u m e = let z : ◌≡◌ {A = ℕ} 0 1 = cc in absurd (omega arith)
    go false true u m e = let z : ◌≡◌ {A = ℕ} 0 1 = cc in absurd (omega arith)
    go false false true m e = refl
    go false false false true e = let z : ◌≡◌ {A = ℕ} 0 1 = cc in absurd (omega arith)
    go false false false false e = let z : ◌≡◌ {A = ℕ} 0 1 = cc in absurd (omega arith)

-- a run does not end in front of a `_` that it skips
abbrev pub Stopped : Bool → ℕ → ℕ → Type 0
Stopped skip zero b = Unit {0}
Stopped skip (suc n) b = (skip && eqb b 95) ≡ false

module _ (skip : Bool) (radix b : ℕ) (t : List ℕ) (x : Written) where
  sign-after : (minus p : Bool) (n : ℕ) → on_sign minus (part_of p) (seen_after n (opened p)) x ≡ refuse 12
  unfolding on_sign seen_after
  sign-after minus false zero = refl
  sign-after minus false (suc n) = refl
  sign-after minus true zero = refl
  sign-after minus true (suc n) = refl

  under-after : (skip p : Bool) (n : ℕ) → Stopped skip n b → eqb b 95 ≡ true
      → on_underscore (sep_of skip) (part_of p) (seen_after n (opened p)) x ≡ refuse (under_number skip)
  unfolding on_underscore seen_after under_number
  under-after false false n u e = refl
  under-after false true n u e = refl
  under-after true false zero u e = refl
  under-after true true zero u e = refl
  under-after true p (suc n) u e = absurd (true≢false (sym e ∙ u))

  mark-after : (base : ℕ) (p : Bool) → on_mark base (part_of p) x ≡ at exponent nothing (with_base x base)
  unfolding on_mark
  mark-after base false = refl
  mark-after base true = refl

  other_after : (p : Bool) → is_digit radix b ≡ false → on_other radix b (part_of p) x ≡ refuse 13
  unfolding on_other
  other_after false d = rw d
  other_after true d = rw d

  point-after : (p : Bool) → (p ≡ false → eqb b 46 ≡ false) → eqb b 46 ≡ true → on_point (part_of p) x ≡ refuse 15
  unfolding on_point
  point-after false o e = absurd (true≢false (sym e ∙ o refl))
  point-after true o e = refl

  -- no digit stands there, no `_` that would have been skipped, and in the whole part no point
  pub read-after :
      (p : Bool) (n : ℕ) → is_digit radix b ≡ false → Stopped skip n b → (p ≡ false → eqb b 46 ≡ false) →
      reading (sep_of skip) radix (b ∷ t) (at (part_of p) (seen_after n (opened p)) x) ≡ after_run (class_of radix b) skip radix t x
  unfolding on_class after_run
  read-after p n d u o = read_next (sep_of skip) radix b t (part_of p) (seen_after n (opened p)) x ∙ by (class_of radix b) refl
    where
      refusing : {s : Scan} (n : ℕ) → s ≡ refuse n → reading (sep_of skip) radix t s ≡ unread n
      refusing n e = ap (reading (sep_of skip) radix t) e ∙ read-refused (sep_of skip) radix t n

      by : (c : Class) → class_of radix b ≡ c
          → reading (sep_of skip) radix t (on_class c (sep_of skip) radix b (part_of p) (seen_after n (opened p)) x) ≡ after_run c skip radix t x
      by Sign e = refusing 12 (sign-after (eqb b 45) p n)
      by Point e = refusing 15 (point-after p o (class-point radix b e))
      by Underscore e = refusing (under_number skip) (under-after skip p n u (class-under radix b e))
      by (Mark base) e = ap (reading (sep_of skip) radix t) (mark-after base p)
      by Other e = refusing 13 (other_after p d)

  -- the point between the whole part and the fraction
  pub read-point : (q : Seen) → b ≡ 46 → reading (sep_of skip) radix (b ∷ t) (at whole q x) ≡ reading (sep_of skip) radix t (at fraction nothing x)
  unfolding reading scan step on_point
  read-point q e = rw e

pub under-skipped : {skip : Bool} → skip ≡ true → number_of MisplacedUnderscore ≡ under_number skip
unfolding under_number number_of
under-skipped s = rw s

pub under-plain : {skip : Bool} → skip ≡ false → number_of InvalidDigit ≡ under_number skip
unfolding under_number number_of
under-plain s = rw s
