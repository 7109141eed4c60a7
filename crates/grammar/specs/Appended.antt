-- Zeros at the end of a text: what they do to the scan, to the raw, and to what stands in front of a literal. Assumes nothing.
use Rattle.std.specs.Prelude.{◌≡◌, refl, Bool, true, false, cond, List, [], ◌∷◌, ◌++◌, eqb, length}
use Rattle.std.proofs.Math.Path.{sym, ap}
use Rattle.std.proofs.Common.{◌∙◌, subst, arith, ne_eqb, lt-ltb}
use Prim.Native.Nat.{ℕ, zero, suc, ◌<◌}
use Rattle.std.proofs.Math.ListN.{length-append}
use Rattle.laws.specs.Text.{zeros}
use Rattle.std.proofs.lemmas.Bool.{eqb-false}
use Rattle.format.specs.declared.Manner.{Manner}
use Rattle.format.specs.Meaning.{Sign, signed, unsigned, settle, with_sign}
use Rattle.grammar.specs.Meaning.{digit_of, is_mark, Written, prefix_mark, prefix_radix, drop_underscores}
use Rattle.grammar.specs.Meaning.{after_prefix, literal_minus, literal_body, raw_of, with_digit}
use Rattle.grammar.specs.Automaton.{Sep, fraction, Seen, digit, Scan, at, step, scan, ended, finish, read_scan, on_other}
use Rattle.grammar.specs.Accepted.{Ends, ends-sound, sound-base, finish-at, scan-append}
use Rattle.grammar.specs.Literals.{short-prefix}
use Rattle.grammar.specs.Rounding.{zero_more}

module _ (j : Sep) (radix : ℕ) (r : 0 < radix) where
  zero-step : (q : Seen) (x : Written) → step j radix 48 fraction q x ≡ at fraction digit (with_digit x 0 1)
  unfolding step on_other is_mark digit_of
  zero-step q x = rw (lt-ltb 0 radix r)

  zeros-read : (k : Manner) (s : Sign) (w f n : ℕ) (q : Seen) (x : Written) → 0 < x.base → (length x.digits ≡ 0 → ⊥)
      → read_scan k s w f radix (finish (scan j radix (zeros n) (at fraction q x))) ≡ settle k s w (with_sign x.neg (raw_of radix f x))
  unfolding scan finish ended read_scan
  zeros-read k s w f zero q x b d = rw (ne_eqb (length x.digits) 0 d)
  zeros-read k s w f (suc n) q x b d =
      ap (λ (y : Scan). read_scan k s w f radix (finish (scan j radix (zeros n) y))) (zero-step q x)
      ∙ zeros-read k s w f n digit (with_digit x 0 1) b (λ e. omega (arith, length-append x.digits (0 ∷ [])))
      ∙ ap (λ (m : ℕ). settle k s w (with_sign x.neg m)) (zero_more radix f x r b)

  -- a text that ends in its fraction
  pub zeros-same : (k : Manner) (s : Sign) (w f n : ℕ) (q : Seen) (x : Written) (t : List ℕ) (start : Scan) → Ends radix (finish (scan j radix t start))
      → finish (scan j radix t start) ≡ at fraction q x
      → read_scan k s w f radix (finish (scan j radix (t ++ zeros n) start)) ≡ read_scan k s w f radix (finish (scan j radix t start))
  unfolding read_scan
  zeros-same k s w f n q x t start h e =
      let before = finish-at (scan j radix t start) e in
      let base = sound-base r (ends-sound (subst (Ends radix) e h)) in
      ap (λ (y : Scan). read_scan k s w f radix (finish y)) (scan-append j radix t (zeros n) start)
      ∙ ap (λ (y : Scan). read_scan k s w f radix (finish (scan j radix (zeros n) y))) before.0
      ∙ zeros-read k s w f n q x base (eqb-false (length x.digits) 0 before.1)
      ∙ sym (ap (read_scan k s w f radix) e)

-- zeros at the end change nothing in front: the sign, the prefix and the `_` after it
pub minus-zeros : (s : Sign) (t : List ℕ) (n : ℕ) → literal_minus s (t ++ zeros n) ≡ literal_minus s t
unfolding literal_minus
minus-zeros signed [] zero = refl
minus-zeros signed [] (suc n) = refl
minus-zeros signed (b ∷ t) n = refl
minus-zeros unsigned t n = refl

pub body-zeros : (s : Sign) (t : List ℕ) (n : ℕ) → literal_body s (t ++ zeros n) ≡ literal_body s t ++ zeros n
unfolding literal_minus
body-zeros signed [] n = rw (minus-zeros signed [] n)
body-zeros signed (b ∷ t) n = go (eqb b 45)
  where
    go : (m : Bool) → cond m (t ++ zeros n) (b ∷ t ++ zeros n) ≡ cond m t (b ∷ t) ++ zeros n
    go true = refl
    go false = refl
body-zeros unsigned t n = refl

pub prefix-zeros : (t : List ℕ) (n : ℕ) → prefix_radix (t ++ zeros n) ≡ prefix_radix t
unfolding prefix_radix prefix_mark
prefix-zeros [] zero = refl
prefix-zeros [] (suc zero) = refl
prefix-zeros [] (suc (suc n)) = refl
prefix-zeros (a ∷ []) zero = refl
prefix-zeros (a ∷ []) (suc n) = refl
prefix-zeros (a ∷ b ∷ t) n = refl

underscores-zeros : (t : List ℕ) (n : ℕ) → drop_underscores (t ++ zeros n) ≡ drop_underscores t ++ zeros n
unfolding drop_underscores
underscores-zeros [] zero = refl
underscores-zeros [] (suc n) = refl
underscores-zeros (b ∷ t) n = go (eqb b 95) (underscores-zeros t n)
  where
    go : (m : Bool) → drop_underscores (t ++ zeros n) ≡ drop_underscores t ++ zeros n
        → cond m (drop_underscores (t ++ zeros n)) (b ∷ t ++ zeros n) ≡ cond m (drop_underscores t) (b ∷ t) ++ zeros n
    go true e = e
    go false e = refl

pub after-zeros : (t : List ℕ) (n : ℕ) → after_prefix (t ++ zeros n) ≡ after_prefix t ++ zeros n
after-zeros [] n = rw (prefix-zeros [] n, sym (short-prefix [] (omega arith)))
after-zeros (a ∷ []) n = rw (prefix-zeros (a ∷ []) n, sym (short-prefix (a ∷ []) (omega arith)))
after-zeros (a ∷ b ∷ t) n = rw (prefix-zeros (a ∷ b ∷ t) n) (go (eqb (prefix_radix (a ∷ b ∷ t)) 10))
  where
    go : (m : Bool) → cond m (a ∷ b ∷ t ++ zeros n) (drop_underscores (t ++ zeros n)) ≡ cond m (a ∷ b ∷ t) (drop_underscores t) ++ zeros n
    go true = refl
    go false = underscores-zeros t n
