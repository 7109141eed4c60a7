-- What is known where nothing is refused, and what a refusal, or its absence, makes of a promised outcome.
-- Assumes nothing.
use Rattle.std.specs.Prelude.{◌≡◌, refl, ◌⊎◌, Ok, Err, Bool, true, false, cond, ℕ, ◌≤◌, eqb, leb}
use Rattle.std.proofs.Common.{inl, inr, arith}
use borrow.Author.Tests.{ne_eqb, eqb-true, leb-true}
use Rattle.format.specs.declared.refusal.Refusal.{Refusal}
use Rattle.format.specs.Meaning.{named, guarded, checked}
use Rattle.format.specs.Checked.{fault-checked, none-checked}
use Rattle.filter.specs.Meaning.{most_taps, taps_fault, block_fault}

-- ---- what is known where nothing is refused
pub taps-few : (n : ℕ) → taps_fault n ≡ 0 → n ≤ most_taps
unfolding taps_fault
taps-few n h = go (eqb n 0) (leb n most_taps) refl h
  where
    go : (a b : Bool) → leb n most_taps ≡ b → ◌≡◌ {A = ℕ} (cond a 40 (cond b 0 40)) 0 → n ≤ most_taps
    go true b e h = absurd (omega arith)
    go false true e h = leb-true n most_taps e
    go false false e h = absurd (omega arith)

-- lists of one length, and then what the rest says
pub same_then : (a b rest : ℕ) → cond (eqb a b) rest 5 ≡ 0 → (a ≡ b) × (rest ≡ 0)
same_then a b rest h = go (eqb a b) refl h
  where
    go : (t : Bool) → eqb a b ≡ t → cond t rest 5 ≡ 0 → (a ≡ b) × (rest ≡ 0)
    go true e h = (eqb-true a b e, h)
    go false e h = absurd (omega arith)

pub record Fit (samples outputs clips : ℕ) : Type 0 where
  pub outputs-fit : outputs ≡ samples
  pub clips-fit : clips ≡ samples

pub block_fit : (n samples outputs clips : ℕ) → block_fault n samples outputs clips ≡ 0 → Fit samples outputs clips
unfolding block_fault
block_fit n samples outputs clips h =
    let a = same_then samples outputs (cond (eqb samples clips) (taps_fault n) 5) h in
    let b = same_then samples clips (taps_fault n) a.1 in
    record { outputs-fit = omega arith; clips-fit = omega arith }

-- ---- what a refusal leaves, and what is done without one: r is what the check said
module _ {A B : Type 0} (fault : ℕ) (a : A) (refused : Refusal → B) (done : B) where
  pub refuses : {e : Refusal} → Err e ≡ checked fault a → refused e ≡ guarded fault (λ n. refused (named n)) done
  unfolding guarded
  refuses r =
      let f = fault-checked a r in
      rw (ne_eqb fault 0 f.0, f.1)

  pub goes_on : {b : A} → Ok b ≡ checked fault a → done ≡ guarded fault (λ n. refused (named n)) done
  unfolding guarded
  goes_on r = rw (none-checked a r).0

-- the other way: an outcome is what is done where nothing is refused, or what a refusal leaves
pub which : {A : Type 0} (fault : ℕ) (refused : ℕ → A) (done : A) {r : A} → r ≡ guarded fault refused done → ((fault ≡ 0) × (r ≡ done)) ⊎ (r ≡ refused fault)
unfolding guarded
which fault refused done {r} e = go (eqb fault 0) refl e
  where
    go : (t : Bool) → eqb fault 0 ≡ t → r ≡ cond t done (refused fault) → ((fault ≡ 0) × (r ≡ done)) ⊎ (r ≡ refused fault)
    go true f e = inl (eqb-true fault 0 f, e)
    go false f e = inr e
