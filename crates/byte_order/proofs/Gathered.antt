-- A number from bytes of which the first is the lowest, gathered from the last on: each byte goes below what is there. So what is there, before those that are
-- left, is the number; and i bytes make a number below 2^(8 i). Assumes nothing.
use Rattle.std.specs.Prelude.{◌≡◌, List, [], ◌∷◌, ◌++◌, reverse, ℕ, ◌+◌, ◌-◌, ◌*◌, ◌^◌, ◌≤◌, ◌<◌, length}
use Rattle.std.proofs.Math.Path.{sym, ap}
use Rattle.std.proofs.Common.{◌∙◌, subst, arith, length-append, pow_pos}
use Rattle.std.proofs.lemmas.List.{reverse-append}
use Rattle.std.proofs.Math.Nat.{pow-le-pow_right}
use Rattle.byte_order.specs.Meaning.{from_le, from_be}
use Rattle.byte_order.specs.Bytes.{below_next}
use Rattle.byte_order.specs.Theorems.{be-reverse}

-- word is what the bytes made of which rest is left
pub record Gathered (bytes : List ℕ) (word : ℕ) (rest : List ℕ) : Type 0 where
  pub value : from_be word (reverse rest) ≡ from_le bytes
  pub below : word < 2 ^ (8 * (length bytes - length rest))
  pub few : length rest ≤ length bytes

pub none-gathered : {bytes rest : List ℕ} → rest ≡ bytes → Gathered bytes 0 rest
none-gathered {bytes} {rest} e =
    record {
      value = ap (λ (l : List ℕ). from_be 0 (reverse l)) e ∙ be-reverse bytes;
      below = pow_pos (8 * (length bytes - length rest));
      few = omega (arith, ap length e);
    }

module _ (bytes : List ℕ) (word : ℕ) (rest left : List ℕ) (b : ℕ) (g : Gathered bytes word rest) (e : rest ≡ left ++ (b ∷ [])) where
  last-first : reverse rest ≡ b ∷ reverse left
  last-first = ap reverse e ∙ reverse-append left (b ∷ [])

  -- one more is there
  one-more : length bytes - length left ≡ length bytes - length rest + 1
  one-more = omega (arith, g.few, ap length e, length-append left (b ∷ []))

  -- whichever byte it is
  next-below : (d : ℕ) → d < 256 → word * 256 + d < 2 ^ (8 * (length bytes - length left))
  next-below d h =
      subst (λ (i : ℕ). word * 256 + d < 2 ^ (8 * i)) (sym one-more) (below_next word (length bytes - length rest) d g.below h)

  pub next-gathered : b < 256 → Gathered bytes (word * 256 + b) left
  unfolding from_be
  next-gathered h =
      record {
        value = ap (from_be word) (sym last-first) ∙ g.value;
        below = next-below b h;
        few = omega (arith, g.few, ap length e, length-append left (b ∷ []));
      }

  -- eight bytes fit a word
  pub next-fits : (d : ℕ) → d < 256 → length bytes ≤ 8 → word * 256 + d < 2 ^ 64
  next-fits d h s =
      let some : 8 * (length bytes - length left) ≤ 64 = omega arith in
      omega (arith, next-below d h, pow-le-pow_right {n = 2} (omega arith) some)

pub all-gathered : (bytes : List ℕ) (word : ℕ) (rest : List ℕ) → Gathered bytes word rest → length rest ≡ 0 → word ≡ from_le bytes
unfolding from_be
all-gathered bytes word [] g e = g.value
all-gathered bytes word (b ∷ t) g e = absurd (omega arith)
