-- The two ends of the range, and what holding does to a number by where it lies: past one end, past the other, or inside. Assumes nothing.
use Rattle.std.specs.Prelude.{◌≡◌, refl, Bool, true, false, cond, ℤ, pos}
use Rattle.std.proofs.Common.{sym, ◌∙◌}
use Rattle.std.proofs.lemmas.Bool.{false≢true}
use Rattle.std.specs.Int.Signed.{lt_z}
use Rattle.laws.specs.Signed.{signed as kit}
use Rattle.format.specs.Meaning.{signed, lowest, highest}
use Rattle.filter.specs.Meaning.{held, clips}
use Rattle.filter.specs.Range.{Sample, zero-sample, below-clips, above-clips, between, sample-keeps}
use Rattle.headroom.specs.declared.peak.Way.{Way}
use Rattle.headroom.specs.declared.peak.Way.TheVariants.{High, Low}
use Rattle.headroom.specs.Meaning.{by_sign, driven_of, passes}

-- the two ends
unfoldable pub end_of : Way → ℤ
end_of High = highest signed 16
end_of Low = lowest signed 16

end-sample : (way : Way) → Sample (end_of way)
unfolding end_of lowest highest
end-sample High = record { low = omega kit; high = omega kit }
end-sample Low = record { low = omega kit; high = omega kit }

-- a driving sample is one of these, or 0
by-sign-sample : (t above below : ℤ) → Sample above → Sample below → Sample (by_sign t above below)
unfolding by_sign
by-sign-sample t above below a b = go (lt_z (pos 0) t) (lt_z t (pos 0))
  where
    go : (p n : Bool) → Sample (cond p above (cond n below (pos 0)))
    go true n = a
    go false true = b
    go false false = zero-sample

pub driven-sample : (way : Way) (t : ℤ) → Sample (driven_of way t)
unfolding driven_of end_of
driven-sample High t = by-sign-sample t (end_of High) (end_of Low) (end-sample High) (end-sample Low)
driven-sample Low t = by-sign-sample t (end_of Low) (end_of High) (end-sample Low) (end-sample High)

-- where a number lies
data Lies (y : ℤ) : Type 0 where
  past : (way : Way) → passes way y ≡ true → Lies y
  inside : passes High y ≡ false → passes Low y ≡ false → Lies y

lies : (y : ℤ) → Lies y
lies y = go (passes High y) (passes Low y) refl refl
  where
    go : (a b : Bool) → passes High y ≡ a → passes Low y ≡ b → Lies y
    go true b e f = past High e
    go false true e f = past Low f
    go false false e f = inside e f

-- past an end, it is held to that end, and that is a clip
pub past-clips : (way : Way) (y : ℤ) → passes way y ≡ true → (clips y ≡ true) × (held y ≡ end_of way)
unfolding passes end_of
past-clips High y h = above-clips y h
past-clips Low y h = below-clips y h

-- inside, it is a sample, and nothing changes
pub inside-keeps : (y : ℤ) → passes High y ≡ false → passes Low y ≡ false → (clips y ≡ false) × (held y ≡ y)
unfolding passes
inside-keeps y h l = sample-keeps y (between y l h)

pub zero-inside : (way : Way) → passes way (pos 0) ≡ true → ⊥
zero-inside way h = false≢true (sym (sample-keeps (pos 0) zero-sample).0 ∙ (past-clips way (pos 0) h).0)

-- a clip that is held to an end is past that end
ends-differ : end_of High ≡ end_of Low → ⊥
unfolding end_of lowest highest
ends-differ e = omega kit

pub clips-past : (way : Way) (y : ℤ) → clips y ≡ true → held y ≡ end_of way → passes way y ≡ true
clips-past way y c e = pick way e (lies y)
  where
    pick : (way : Way) → held y ≡ end_of way → Lies y → passes way y ≡ true
    pick High e (past High h) = h
    pick High e (past Low h) = absurd (ends-differ (sym e ∙ (past-clips Low y h).1))
    pick Low e (past High h) = absurd (ends-differ (sym (past-clips High y h).1 ∙ e))
    pick Low e (past Low h) = h
    pick way e (inside h l) = absurd (false≢true (sym (inside-keeps y h l).0 ∙ c))
