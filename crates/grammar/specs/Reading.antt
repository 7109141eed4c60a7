-- The rest of a text from where the scan stands: a byte more, by its class; the end of the text; and a sign in front, or none. Assumes nothing.
use Rattle.std.specs.Prelude.{◌≡◌, refl, Bool, true, false, cond, List, [], ◌∷◌, ℕ, eqb, length}
use Rattle.std.proofs.Common.{ap}
use Rattle.grammar.specs.Meaning.{is_sign, is_mark, Written, Reading, number, unread, blank, with_exp}
use Rattle.grammar.specs.Automaton.{base_of, NumberPart, whole, exponent, Seen, nothing, sign, digit, Scan, at, refuse, Sep, Skip}
use Rattle.grammar.specs.Automaton.{Error, step, scan, ended, finish, on_sign, on_point, on_underscore, on_mark, on_other, reading_of}
use Rattle.grammar.specs.Class.{class_of}
use Rattle.grammar.specs.Run.{part_of}
use Rattle.grammar.specs.declared.byte.Class.{Class}
use Rattle.grammar.specs.declared.byte.Class.TheVariants.{Sign, Point, Underscore, Mark, Other}

-- the rest of a text, from where the scan stands
unfoldable pub reading : Sep → ℕ → List ℕ → Scan → Reading
reading k radix t s = reading_of (finish (scan k radix t s))

-- a step by the byte's class
unfoldable pub on_class : Class → Sep → ℕ → ℕ → NumberPart → Seen → Written → Scan
on_class Sign k radix b p q x = on_sign (eqb b 45) p q x
on_class Point k radix b p q x = on_point p x
on_class Underscore k radix b p q x = on_underscore k p q x
on_class (Mark base) k radix b p q x = on_mark base p x
on_class Other k radix b p q x = on_other radix b p x

step-class : (k : Sep) (radix b : ℕ) (p : NumberPart) (q : Seen) (x : Written) → step k radix b p q x ≡ on_class (class_of radix b) k radix b p q x
unfolding step class_of on_class
step-class k radix b p q x = go (is_sign b) (eqb b 46) (eqb b 95) (is_mark radix b)
  where
    go : (s d u m : Bool) →
        cond s (on_sign (eqb b 45) p q x) (cond d (on_point p x) (cond u (on_underscore k p q x) (cond m (on_mark (base_of radix b) p x) (on_other radix b p x))))
        ≡ on_class (cond s Sign (cond d Point (cond u Underscore (cond m (Mark (base_of radix b)) Other)))) k radix b p q x
    go true d u m = refl
    go false true u m = refl
    go false false true m = refl
    go false false false true = refl
    go false false false false = refl

-- one byte more; a refusal stays
pub read_next : (k : Sep) (radix b : ℕ) (t : List ℕ) (p : NumberPart) (q : Seen) (x : Written)
    → reading k radix (b ∷ t) (at p q x) ≡ reading k radix t (on_class (class_of radix b) k radix b p q x)
unfolding reading scan
read_next k radix b t p q x = ap (λ (s : Scan). reading_of (finish (scan k radix t s))) (step-class k radix b p q x)

pub read-refused : (k : Sep) (radix : ℕ) (t : List ℕ) (n : ℕ) → reading k radix t (refuse n) ≡ unread n
unfolding reading scan finish reading_of
read-refused k radix [] n = refl
read-refused k radix (b ∷ t) n = refl

-- ---- before the mark
-- what the code starts a part with: the sign of the whole part is read before, the fraction has none
abbrev pub opened : Bool → Seen
opened false = sign
opened true = nothing

-- the end of the text before the mark
pub read-end : (k : Sep) (radix : ℕ) (p : Bool) (q : Seen) (x : Written)
    → reading k radix [] (at (part_of p) q x) ≡ cond (eqb (length x.digits) 0) (unread 11) (number x)
unfolding reading scan finish ended reading_of
read-end k radix p q x = go (eqb (length x.digits) 0) p
  where
    go : (z p : Bool) → reading_of (cond z (refuse 11) (ended (part_of p) q x)) ≡ cond z (unread 11) (number x)
    go true p = refl
    go false false = refl
    go false true = refl

-- A text whose first byte is no sign reads the same whether or not its sign was read: of the number, or of the exponent.
unfoldable pub sign_first : List ℕ → Bool
sign_first [] = false
sign_first (b ∷ t) = is_sign b

under_same : (k : Sep) (p : NumberPart) (x : Written) → on_underscore k p nothing x ≡ on_underscore k p sign x
unfolding on_underscore
under_same Skip p x = refl
under_same Error p x = refl

step_same : (k : Sep) (radix b : ℕ) (p : NumberPart) (x : Written) → is_sign b ≡ false → step k radix b p nothing x ≡ step k radix b p sign x
unfolding step
step_same k radix b p x e = rw (e, under_same k p x)

pub read-unsigned : (k : Sep) (radix : ℕ) (t : List ℕ) (x : Written) → sign_first t ≡ false
    → reading k radix t (at whole nothing x) ≡ reading k radix t (at whole sign x)
unfolding reading scan finish ended reading_of sign_first
read-unsigned k radix [] x e = go (eqb (length x.digits) 0)
  where
    go : (z : Bool) → reading_of (cond z (refuse 11) (at whole nothing x)) ≡ reading_of (cond z (refuse 11) (at whole sign x))
    go true = refl
    go false = refl
read-unsigned k radix (b ∷ t) x e = ap (λ (s : Scan). reading_of (finish (scan k radix t s))) (step_same k radix b whole x e)

pub read-exponent-unsigned : (k : Sep) (radix : ℕ) (t : List ℕ) (x : Written) → sign_first t ≡ false
    → reading k radix t (at exponent nothing x) ≡ reading k radix t (at exponent sign x)
unfolding reading scan finish ended sign_first
read-exponent-unsigned k radix [] x e = refl
read-exponent-unsigned k radix (b ∷ t) x e = ap (λ (s : Scan). reading_of (finish (scan k radix t s))) (step_same k radix b exponent x e)

-- and where it is a sign
pub read-sign : (k : Sep) (radix b : ℕ) (t : List ℕ) → is_sign b ≡ true
    → reading k radix (b ∷ t) (at whole nothing (blank false)) ≡ reading k radix t (at whole sign (blank (eqb b 45)))
unfolding reading scan step on_sign
read-sign k radix b t e = rw e

pub read-exponent-sign : (k : Sep) (radix b : ℕ) (t : List ℕ) (x : Written) → is_sign b ≡ true
    → reading k radix (b ∷ t) (at exponent nothing x) ≡ reading k radix t (at exponent sign (with_exp x (eqb b 45) x.exp))
unfolding reading scan step on_sign
read-exponent-sign k radix b t x e = rw e

-- ---- the exponent: where its scan stands once its sign was read
abbrev pub exp_seen : Bool → Seen
exp_seen true = digit
exp_seen false = sign

abbrev pub exp_at : Bool → Written → ℕ → Scan
exp_at seen x e = at exponent (exp_seen seen) (with_exp x x.down e)

-- the end of the exponent: no digits (11), then none of its own (17)
unfoldable pub exp_end : Bool → Bool → Written → Reading
exp_end true seen x = unread 11
exp_end false true x = number x
exp_end false false x = unread 17

pub read-exp-end : (k : Sep) (radix : ℕ) (seen : Bool) (x : Written) (e : ℕ)
    → reading k radix [] (exp_at seen x e) ≡ exp_end (eqb (length x.digits) 0) seen (with_exp x x.down e)
unfolding reading scan finish ended reading_of exp_end
read-exp-end k radix seen x e = go (eqb (length x.digits) 0) seen
  where
    go : (z seen : Bool) → reading_of (cond z (refuse 11) (ended exponent (exp_seen seen) (with_exp x x.down e))) ≡ exp_end z seen (with_exp x x.down e)
    go true seen = refl
    go false true = refl
    go false false = refl
