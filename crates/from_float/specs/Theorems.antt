-- What is proved of the meaning: a number that the format holds is not changed, and a NaN is refused. (`Kit` says the outcome in the kit's own words.)
-- Assumes nothing.
use Rattle.std.specs.Prelude.{◌≡◌, Bool, false, ℕ, ◌*◌, ◌^◌, ◌<◌}
use Rattle.std.proofs.Math.Path.{ap}
use Rattle.std.proofs.Common.{◌∙◌, arith}
use Rattle.format.specs.declared.Manner.{Manner}
use Rattle.format.specs.Meaning.{Sign, fault_of, settle, with_sign, done, refused}
use Rattle.format.specs.Fault.{fault-free, width-bounds}
use Rattle.format.specs.Settle.{unless-none}
use Rattle.format.specs.Theorems.{InRange}
use Rattle.format.proofs.Theorems.{settle-fits}
use Rattle.float.specs.Meaning.{Binary, least, Value, nan, finite, pattern_value}
use Rattle.float.specs.Theorems.{raw-exact}
use Rattle.from_float.specs.Meaning.{of_value, from_float_of}

-- ---- in a format: what a pattern stands for decides
module _ (b : Binary) (k : Manner) (s : Sign) (w f x : ℕ) (format : fault_of w f ≡ 0) where
  from-value : {v : Value} → pattern_value b x ≡ v → from_float_of b k s w f x ≡ of_value b k s w f v
  from-value e = unless-none (fault_of w f) (of_value b k s w f (pattern_value b x)) format ∙ ap (of_value b k s w f) e

  -- a number that the format holds is not changed, in any manner
  pub exact-held : {neg : Bool} {n : ℕ} (r : ℕ) → pattern_value b x ≡ finite neg n → n * 2 ^ f ≡ r * 2 ^ least b → InRange s w (with_sign neg r)
      → from_float_of b k s w f x ≡ done (with_sign neg r) false
  unfolding of_value
  exact-held {neg} {n} r e same range =
      let some : 0 < w = omega (arith, width-bounds w (fault-free w f format).0) in
      from-value e ∙ ap (λ (m : ℕ). settle k s w (with_sign neg m)) (raw-exact b f n r same) ∙ settle-fits s w (with_sign neg r) k some range

  -- a NaN is refused with 30, whatever its sign and its payload
  pub nan-refused : pattern_value b x ≡ nan → from_float_of b k s w f x ≡ refused 30
  unfolding of_value
  nan-refused e = from-value e
