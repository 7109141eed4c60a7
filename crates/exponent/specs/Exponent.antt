-- The exponent, a byte at a time: a digit takes it further, a `_` that is skipped leaves it, anything else is refused. Assumes nothing.
use Rattle.std.specs.Prelude.{◌≡◌, Result, Ok, Err, Bool, List, ◌∷◌, ℕ, ◌+◌, ◌*◌, ◌≤◌, leb}
use Rattle.std.proofs.Math.Path.{refl, ap}
use Rattle.std.proofs.Common.{◌∙◌, arith, ltb-true, leb-true}
use Rattle.std.proofs.Math.Bool.{true, false, cond}
use Rattle.grammar.specs.Meaning.{digit_of, Written, exp_limit, with_exp}
use Rattle.grammar.specs.Automaton.{is_digit, NumberPart, exponent, Seen, digit, Scan, at, refuse, Sep, on_exp_digit, step}
use Rattle.grammar.specs.Automaton.{scan, finish, on_sign, on_point, on_underscore, on_mark, on_other, reading_of}
use Rattle.grammar.specs.Class.{class_of, ten-plain}
use Rattle.grammar.specs.Run.{sep_of}
use Rattle.grammar.specs.Reading.{reading, on_class, read_next, exp_seen, exp_at}
use Rattle.grammar.specs.declared.byte.Class.{Class}
use Rattle.grammar.specs.declared.byte.Class.TheVariants.{Sign, Point, Underscore, Mark, Other}
use Rattle.format.specs.declared.refusal.Refusal.{Refusal}
use Rattle.format.specs.declared.refusal.Refusal.TheVariants.{MisplacedSign, MisplacedUnderscore, ExpInvalidDigit, TooManyExp, ExpOverflow}
use Rattle.format.specs.Meaning.{number}

-- what the exponent is after a byte, or the refusal
abbrev pub ExpStep : Type 0
ExpStep = Result ℕ Refusal

unfoldable pub exp_under : Bool → Bool → ℕ → ExpStep
exp_under true true e = Ok e
exp_under true false e = Err MisplacedUnderscore
exp_under false seen e = Err ExpInvalidDigit

unfoldable pub exp_digit : Bool → ℕ → ℕ → ExpStep
exp_digit down e d = cond (leb (e * 10 + d) (exp_limit down)) (Ok (e * 10 + d)) (Err ExpOverflow)

unfoldable pub exp_other : Class → Bool → Bool → ℕ → ExpStep
exp_other Sign skip seen e = Err MisplacedSign
exp_other Point skip seen e = Err ExpInvalidDigit
exp_other Underscore skip seen e = exp_under skip seen e
exp_other (Mark base) skip seen e = Err TooManyExp
exp_other Other skip seen e = Err ExpInvalidDigit

unfoldable pub exp_step_of : Bool → ℕ → Bool → Bool → ℕ → ℕ → ExpStep
exp_step_of skip radix seen down e b = cond (is_digit 10 b) (exp_digit down e (digit_of b)) (exp_other (class_of radix b) skip seen e)

-- where the scan stands after a step
unfoldable pub exp_scan : ExpStep → Written → Scan
exp_scan (Ok e) x = exp_at true x e
exp_scan (Err e) x = refuse (number e)

read_step : (k : Sep) (radix b : ℕ) (t : List ℕ) (p : NumberPart) (q : Seen) (x : Written) {s : Scan} → step k radix b p q x ≡ s
    → reading k radix (b ∷ t) (at p q x) ≡ reading k radix t s
unfolding reading scan
read_step k radix b t p q x e = ap (λ (s : Scan). reading_of (finish (scan k radix t s))) e

module _ (skip : Bool) (radix b : ℕ) (x : Written) (e : ℕ) where
  exp-digit-step : (seen : Bool) → is_digit 10 b ≡ true
      → step (sep_of skip) radix b exponent (exp_seen seen) (with_exp x x.down e) ≡ exp_scan (exp_digit x.down e (digit_of b)) x
  unfolding step on_other on_exp_digit exp_digit exp_scan number
  exp-digit-step seen h =
      let n = ten-plain radix b (ltb-true (digit_of b) 10 h) in
      simp (n.no_sign, n.no-point, n.no-under, n.no-mark, h) (go (leb (e * 10 + digit_of b) (exp_limit x.down)))
    where
      go : (t : Bool) → cond t (at exponent digit (with_exp x x.down (e * 10 + digit_of b))) (refuse 19)
          ≡ exp_scan (cond t (Ok (e * 10 + digit_of b)) (Err ExpOverflow)) x
      go true = refl
      go false = refl

  exp-other-step : (seen : Bool) → is_digit 10 b ≡ false
      → on_class (class_of radix b) (sep_of skip) radix b exponent (exp_seen seen) (with_exp x x.down e) ≡ exp_scan (exp_other (class_of radix b) skip seen e) x
  unfolding on_class on_sign on_point on_underscore on_mark on_other exp_other exp_under exp_scan number
  exp-other-step seen h = go (class_of radix b) skip seen
    where
      go : (c : Class) (skip seen : Bool) → on_class c (sep_of skip) radix b exponent (exp_seen seen) (with_exp x x.down e) ≡ exp_scan (exp_other c skip seen e) x
      go Sign skip true = refl
      go Sign skip false = refl
      go Point skip seen = refl
      go Underscore true true = refl
      go Underscore true false = refl
      go Underscore false seen = refl
      go (Mark base) skip seen = refl
      go Other skip seen = rw h

  -- one byte of the exponent
  pub read-exp : (seen : Bool) (t : List ℕ)
      → reading (sep_of skip) radix (b ∷ t) (exp_at seen x e) ≡ reading (sep_of skip) radix t (exp_scan (exp_step_of skip radix seen x.down e b) x)
  unfolding exp_step_of
  read-exp seen t = go (is_digit 10 b) refl
    where
      go : (d : Bool) → is_digit 10 b ≡ d
          → reading (sep_of skip) radix (b ∷ t) (exp_at seen x e)
          ≡ reading (sep_of skip) radix t (exp_scan (cond d (exp_digit x.down e (digit_of b)) (exp_other (class_of radix b) skip seen e)) x)
      go true h = read_step (sep_of skip) radix b t exponent (exp_seen seen) (with_exp x x.down e) (exp-digit-step seen h)
      go false h = read_next (sep_of skip) radix b t exponent (exp_seen seen) (with_exp x x.down e) ∙ ap (reading (sep_of skip) radix t) (exp-other-step seen h)

-- an exponent stays within a signed word of 32 bits
pub exp-bound : (skip : Bool) (radix : ℕ) (seen down : Bool) (e b : ℕ) {v : ℕ} → e ≤ 2147483648 → Ok v ≡ exp_step_of skip radix seen down e b → v ≤ 2147483648
unfolding exp_step_of exp_digit exp_other exp_under
exp-bound skip radix seen down e b {v} h q = go (is_digit 10 b) q
  where
    limit : (down : Bool) → exp_limit down ≤ 2147483648
    limit true = omega arith
    limit false = omega arith

    by-digit : (t : Bool) → leb (e * 10 + digit_of b) (exp_limit down) ≡ t → Ok v ≡ cond t (Ok (e * 10 + digit_of b)) (Err ExpOverflow) → v ≤ 2147483648
    by-digit true g q = let z : v ≡ e * 10 + digit_of b = cc in omega (arith, leb-true (e * 10 + digit_of b) (exp_limit down) g, limit down)
    by-digit false g q = let z : ◌≡◌ {A = ℕ} 0 1 = cc in absurd (omega arith)

    by-under : (skip seen : Bool) → Ok v ≡ exp_under skip seen e → v ≤ 2147483648
    by-under true true q = let z : v ≡ e = cc in omega arith
    by-under true false q = let z : ◌≡◌ {A = ℕ} 0 1 = cc in absurd (omega arith)
    by-under false seen q = let z : ◌≡◌ {A = ℕ} 0 1 = cc in absurd (omega arith)

    by-class : (c : Class) → Ok v ≡ exp_other c skip seen e → v ≤ 2147483648
    by-class Sign q = let z : ◌≡◌ {A = ℕ} 0 1 = cc in absurd (omega arith)
    by-class Point q = let z : ◌≡◌ {A = ℕ} 0 1 = cc in absurd (omega arith)
    by-class Underscore q = by-under skip seen q
    by-class (Mark base) q = let z : ◌≡◌ {A = ℕ} 0 1 = cc in absurd (omega arith)
    by-class Other q = let z : ◌≡◌ {A = ℕ} 0 1 = cc in absurd (omega arith)

    go : (d : Bool) → Ok v ≡ cond d (exp_digit down e (digit_of b)) (exp_other (class_of radix b) skip seen e) → v ≤ 2147483648
    go true q = by-digit (leb (e * 10 + digit_of b) (exp_limit down)) refl q
    go false q = by-class (class_of radix b) q
