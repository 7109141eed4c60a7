-- The literal's sign and prefix as places of the text. Assumes nothing.
use Rattle.std.specs.Prelude.{◌≡◌, Bool, ℕ, ◌+◌, ◌-◌, ◌≤◌, ◌<◌, eqb, length, take, get_or}
use Rattle.std.proofs.lemmas.List.{take_rest}
use Rattle.std.proofs.Math.Path.{refl, sym, ap}
use Rattle.std.proofs.Common.{ap₂, ◌∙◌, arith, length-drop, drop-drop}
use Rattle.std.proofs.Math.Bool.{true, false, cond}
use Rattle.std.proofs.lemmas.Bool.{false≢true}
use mathlib.Core.List.{List, [], ◌∷◌}
use mir.Val.{bool_byte}
use Rattle.std.proofs.Math.ListN.{drop}
use borrow.Author.Tests.{ne_eqb}
use Rattle.laws.specs.Lists.{no_length}
use Rattle.digits.specs.Meaning.{is_und, take_while}
use Rattle.format.specs.Meaning.{Sign, sign_by}
use Rattle.grammar.specs.Meaning.{prefix_radix, drop_underscores, after_prefix, literal_minus}
use Rattle.grammar.specs.Meaning.{literal_body, literal_radix, literal_reading, is_radix, blank}
use Rattle.grammar.specs.Automaton.{literal_scan, at, whole, sign, Skip}
use Rattle.grammar.specs.Reading.{reading}
use Rattle.grammar.specs.Run.{sep_of}
use Rattle.grammar.specs.Accepted.{prefix-legal}
use Rattle.grammar.specs.Agrees.{literal-scanned}
use Rattle.grammar.specs.Literals.{short-prefix}
use Rattle.scan.specs.Found.{Found, Finds, finds-by}
use Rattle.scan.specs.declared.literal.Written.{Written as LiteralWritten}

abbrev pub start_of : Bool → ℕ
start_of neg = cond neg 1 0

pub record FindsLiteral (s : Sign) (t : List ℕ) (r : LiteralWritten) : Type 0 where
  pub radix : r.radix ≡ literal_radix s t
  pub found : Finds t r.found (literal_reading s t)

-- ---- the sign
module _ (t : List ℕ) (s : Bool) where
  pub minus-yes : s ≡ true → get_or t 0 0 ≡ 45 → true ≡ literal_minus (sign_by s) t
  unfolding literal_minus sign_by
  minus-yes h e = rw (h, e)

  pub minus-empty : length t < 1 → false ≡ literal_minus (sign_by s) t
  unfolding literal_minus sign_by
  minus-empty h = go s (no_length t (omega arith))
    where
      go : (s : Bool) → t ≡ [] → false ≡ literal_minus (sign_by s) t
      go true e = rw e
      go false e = refl

  pub minus-other : (get_or t 0 0 ≡ 45 → ⊥) → false ≡ literal_minus (sign_by s) t
  unfolding literal_minus sign_by
  minus-other h = go s
    where
      go : (s : Bool) → false ≡ literal_minus (sign_by s) t
      go true = sym (ne_eqb (get_or t 0 0) 45 h)
      go false = refl

  pub minus-unsigned : s ≡ false → s ≡ literal_minus (sign_by s) t
  unfolding literal_minus sign_by
  minus-unsigned h = rw h

-- ---- the prefix: it is 10 where there is no second byte
prefix-long : (t : List ℕ) → (prefix_radix t ≡ 10 → ⊥) → 2 ≤ length t
prefix-long [] h = absurd (h (sym (short-prefix [] (omega arith))))
prefix-long (a ∷ []) h = absurd (h (sym (short-prefix (a ∷ []) (omega arith))))
prefix-long (a ∷ b ∷ t) h = omega arith

-- ---- the underscores after it, n how many the code finds
past_underscores : (u : List ℕ) → drop (length (take_while is_und u)) u ≡ drop_underscores u
unfolding drop_underscores take_while is_und
past_underscores [] = refl
past_underscores (b ∷ u) = go (eqb b 95) (past_underscores u)
  where
    go : (g : Bool) → drop (length (take_while is_und u)) u ≡ drop_underscores u
        → drop (length (cond g (b ∷ take_while is_und u) [])) (b ∷ u) ≡ cond g (drop_underscores u) (b ∷ u)
    go true e = e
    go false e = refl

underscores-fit : (u : List ℕ) → length (take_while is_und u) ≤ length u
unfolding take_while
underscores-fit [] = omega arith
underscores-fit (b ∷ u) = go (is_und b) (underscores-fit u)
  where
    go : (g : Bool) → length (take_while is_und u) ≤ length u → length (cond g (b ∷ take_while is_und u) []) ≤ length (b ∷ u)
    go true h = omega arith
    go false h = omega arith

-- ---- where the digits start
module _ (t : List ℕ) {radix : ℕ} (e : radix ≡ prefix_radix t) where
  pub digits-room : (radix ≡ 10 → ⊥) → 2 ≤ length t
  digits-room h = prefix-long t (λ z. h (e ∙ z))

  module _ {n : ℕ} (h : radix ≡ 10 → ⊥) (q : n ≡ length (take_while is_und (take (length t - 2) (drop 2 t)))) where
    pub digits-fit : 2 + n ≤ length t
    digits-fit =
        omega (
          arith,
          q,
          underscores-fit (take (length t - 2) (drop 2 t)),
          ap length (take_rest t 2),
          length-drop 2 t,
          digits-room h,
        )

    pub digits-prefixed : drop (2 + n) t ≡ after_prefix t
    digits-prefixed =
        sym (drop-drop n 2 t)
        ∙ ap (λ (k : ℕ). drop k (drop 2 t)) (q ∙ ap (λ (u : List ℕ). length (take_while is_und u)) (take_rest t 2))
        ∙ past_underscores (drop 2 t)
        ∙ sym (ap (λ (g : Bool). cond g t (drop_underscores (drop 2 t))) (ne_eqb (prefix_radix t) 10 (λ z. h (e ∙ z))))

-- ---- the whole literal
minus-some : (s : Bool) (t : List ℕ) → literal_minus (sign_by s) t ≡ true → 1 ≤ length t
unfolding literal_minus sign_by
minus-some true [] e = absurd (false≢true e)
minus-some false [] e = absurd (false≢true e)
minus-some s (b ∷ t) e = omega arith

pub start-is : (neg : Bool) → bool_byte neg ≡ start_of neg
start-is true = refl
start-is false = refl

module _ (s : Bool) (t : List ℕ) {neg : Bool} (m : neg ≡ literal_minus (sign_by s) t) where
  pub start_fits : {k : ℕ} → k ≡ start_of neg → k ≤ length t
  start_fits q = go (literal_minus (sign_by s) t) refl (q ∙ ap start_of m)
    where
      go : (g : Bool) → literal_minus (sign_by s) t ≡ g → {k : ℕ} → k ≡ start_of g → k ≤ length t
      go true e q = omega (arith, minus-some s t e)
      go false e q = omega arith

  body : {k : ℕ} → k ≡ start_of neg → drop k t ≡ literal_body (sign_by s) t
  body q = ap (λ (n : ℕ). drop n t) (q ∙ ap start_of m) ∙ pick (literal_minus (sign_by s) t)
    where
      pick : (g : Bool) → drop (cond g 1 0) t ≡ cond g (drop 1 t) t
      pick true = refl
      pick false = refl

  -- the code's body, d where the digits start in it
  module _ {k : ℕ} (q : k ≡ start_of neg) where
    behind : take (length t - k) (drop k t) ≡ literal_body (sign_by s) t
    behind = take_rest t k ∙ body q

    pub literal-radix : {r : ℕ} → r ≡ prefix_radix (take (length t - k) (drop k t)) → r ≡ literal_radix (sign_by s) t
    literal-radix e = e ∙ ap prefix_radix behind

    pub literal-fits : {d : ℕ} → d ≤ length (take (length t - k) (drop k t)) → k + d ≤ length t
    literal-fits h = omega (arith, h, ap length (take_rest t k), length-drop k t, start_fits q)

    pub literal-found :
        (d : ℕ) {r : ℕ} {f : Found} → r ≡ prefix_radix (take (length t - k) (drop k t)) →
        drop d (take (length t - k) (drop k t)) ≡ after_prefix (take (length t - k) (drop k t)) →
        Finds t f (reading (sep_of true) r (drop (k + d) t) (at whole sign (blank neg))) → Finds t f (literal_reading (sign_by s) t)
    unfolding reading literal_scan
    literal-found d e a f =
        finds-by t
        (ap₂ (λ (r : ℕ) (g : Bool). reading Skip r (drop (k + d) t) (at whole sign (blank g))) (literal-radix e) m
        ∙ ap (λ (l : List ℕ). reading Skip (literal_radix (sign_by s) t) l (at whole sign (blank (literal_minus (sign_by s) t))))
        (sym (drop-drop d k t) ∙ ap (drop d) (sym (take_rest t k)) ∙ a ∙ ap after_prefix behind)
        ∙ sym (literal-scanned (sign_by s) t))
        f

pub literal-legal : (t : List ℕ) {r : ℕ} → r ≡ prefix_radix t → is_radix r ≡ true
literal-legal t e = ap is_radix e ∙ prefix-legal t
