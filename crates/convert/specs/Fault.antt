-- The checks of two formats: what each outcome of the tests makes of `formats_fault`. Assumes nothing.
use Rattle.std.specs.Prelude.{◌≡◌, refl, true, false, ℕ, ◌≤◌, ◌<◌}
use Rattle.std.proofs.Common.{arith, le-leb}
use Rattle.std.proofs.lemmas.Bool.{lt-leb}
use Rattle.format.specs.declared.refusal.Refusal.TheVariants.{WrongWidth, WrongFrac}
use Rattle.format.specs.Meaning.{is_width, fault_of, named, Refuses}
use Rattle.format.specs.Fault.{fault-free}
use Rattle.convert.specs.Meaning.{formats_fault}

module _ (fw ff w f : ℕ) where
  -- one law a way out
  pub width-from : is_width fw ≡ false → Refuses (formats_fault fw ff w f) WrongWidth
  unfolding formats_fault named
  width-from p = rw p (record { fault = λ z. omega arith; named_is = refl })

  module _ (p : is_width fw ≡ true) where
    pub width-to : is_width w ≡ false → Refuses (formats_fault fw ff w f) WrongWidth
    unfolding formats_fault named
    width-to q = rw (p, q) (record { fault = λ z. omega arith; named_is = refl })

    module _ (q : is_width w ≡ true) where
      pub frac-from : fw < ff → Refuses (formats_fault fw ff w f) WrongFrac
      unfolding formats_fault named
      frac-from h = rw (p, q, lt-leb ff fw h) (record { fault = λ z. omega arith; named_is = refl })

      pub frac-to : ff ≤ fw → w < f → Refuses (formats_fault fw ff w f) WrongFrac
      unfolding formats_fault named
      frac-to h l = rw (p, q, le-leb ff fw h, lt-leb f w l) (record { fault = λ z. omega arith; named_is = refl })

      pub formats-met : ff ≤ fw → f ≤ w → formats_fault fw ff w f ≡ 0
      unfolding formats_fault
      formats-met h l = rw (p, q, le-leb ff fw h, le-leb f w l)

  -- two formats have no fault
  pub formats-free : fault_of fw ff ≡ 0 → fault_of w f ≡ 0 → formats_fault fw ff w f ≡ 0
  formats-free p q =
      let a = fault-free fw ff p in
      let b = fault-free w f q in
      formats-met a.0 b.0 a.1 b.1
