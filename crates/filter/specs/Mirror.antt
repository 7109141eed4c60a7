-- Samples the other way up: every sum, level and history is the other way up too, and so is an output but at -32768, which has no counterpart.
-- Assumes nothing.
use Rattle.std.specs.Prelude.{◌≡◌, refl, ◌↔◌, ◌⊎◌, false, List, [], ◌∷◌, map, ℕ, zero, suc, ℤ, take, ◌≤ℤ◌, ◌<ℤ◌}
use Rattle.std.proofs.Common.{sym, ◌∙◌, ap, inl, inr}
use Rattle.std.proofs.Math.IntN.{negsuc, neg_ℤ}
use Rattle.laws.specs.Diff.{up_neg, dn-neg}
use Rattle.laws.specs.Order.{<ℤ-or-≥ℤ}
use Rattle.laws.specs.Signed.{signed as kit}
use Rattle.laws.specs.Tests.{lt-lt_z}
use Rattle.format.specs.Meaning.{signed, lowest, highest}
use Rattle.filter.specs.Meaning.{most_taps, next, held, clips}
use Rattle.filter.specs.Range.{Sample, below-clips, sample-keeps, held-sample, unclipped}

abbrev pub mirror : List ℤ → List ℤ
mirror xs = map neg_ℤ xs

take-mirror : (n : ℕ) (xs : List ℤ) → take n (mirror xs) ≡ mirror (take n xs)
take-mirror zero xs = refl
take-mirror (suc n) [] = refl
take-mirror (suc n) (x ∷ xs) = rw (take-mirror n xs)

pub next-mirror : (h : List ℤ) (x : ℤ) → next (mirror h) (neg_ℤ x) ≡ mirror (next h x)
unfolding next
next-mirror h x = take-mirror most_taps (x ∷ h)

-- a number and its counterpart that are both samples
both : (y : ℤ) → Sample y → Sample (neg_ℤ y) → held (neg_ℤ y) ≡ neg_ℤ (held y)
both y s t = (sample-keeps (neg_ℤ y) t).1 ∙ ap neg_ℤ (sym (sample-keeps y s).1)

-- one that reaches -32768 is held there
at_low : (y : ℤ) → y ≤ℤ lowest signed 16 → held y ≡ lowest signed 16
unfolding lowest highest
at_low y h = pick (<ℤ-or-≥ℤ y (negsuc 32767))
  where
    pick : (y <ℤ negsuc 32767) ⊎ (negsuc 32767 ≤ℤ y) → held y ≡ negsuc 32767
    pick (inl l) = (below-clips y (lt-lt_z l)).1
    pick (inr l) = (sample-keeps y (record { low = l; high = omega kit })).1 ∙ omega kit

module _ (y : ℤ) where
  -- where neither is held at -32768, both are samples
  inside : (held y ≡ lowest signed 16 → ⊥) → (held (neg_ℤ y) ≡ lowest signed 16 → ⊥) → Sample y × Sample (neg_ℤ y)
  unfolding lowest highest
  inside h k = pick (<ℤ-or-≥ℤ (negsuc 32767) y) (<ℤ-or-≥ℤ (negsuc 32767) (neg_ℤ y))
    where
      pick : (negsuc 32767 <ℤ y) ⊎ (y ≤ℤ negsuc 32767) → (negsuc 32767 <ℤ neg_ℤ y) ⊎ (neg_ℤ y ≤ℤ negsuc 32767) → Sample y × Sample (neg_ℤ y)
      pick (inl a) (inl b) = (
        record { low = omega kit; high = omega (kit, up_neg y, dn-neg y) },
        record { low = omega (kit, up_neg y, dn-neg y); high = omega (kit, up_neg y, dn-neg y) },
      )
      pick (inr a) b = absurd (h (at_low y a))
      pick (inl a) (inr b) = absurd (k (at_low (neg_ℤ y) b))

  pub held-mirror : (held (neg_ℤ y) ≡ neg_ℤ (held y)) ↔ ((held y ≡ lowest signed 16 → ⊥) × (held (neg_ℤ y) ≡ lowest signed 16 → ⊥))
  unfolding lowest highest
  held-mirror = (apart, λ h. let s = inside h.0 h.1 in both y s.0 s.1)
    where
      apart : held (neg_ℤ y) ≡ neg_ℤ (held y) → (held y ≡ negsuc 32767 → ⊥) × (held (neg_ℤ y) ≡ negsuc 32767 → ⊥)
      apart e =
          let s = held-sample y in
          let t = held-sample (neg_ℤ y) in (
            (λ l. omega (kit, s.low, s.high, t.low, t.high, up_neg (held y), dn-neg (held y))),
            (λ l. omega (kit, s.low, s.high, t.low, t.high, up_neg (held y), dn-neg (held y))),
          )

  -- where neither clips, neither is held at -32768
  pub flags-mirror : clips y ≡ false → clips (neg_ℤ y) ≡ false → held (neg_ℤ y) ≡ neg_ℤ (held y)
  flags-mirror c d = both y (unclipped y c) (unclipped (neg_ℤ y) d)
