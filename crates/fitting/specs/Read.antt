-- The three ways out of `read`, put into the promised outcome: a refusal before anything is written, a refused line, and the taps. Assumes nothing.
use Rattle.std.proofs.Math.Path.{◌≡◌}
use Rattle.std.specs.Prelude.{refl, Ok, Err, Bool, List, [], ◌∷◌, map, ℕ, ◌≤◌, eqb, ℤ, length, take, drop}
use Rattle.std.proofs.Common.{sym, ◌∙◌, arith, length-append, take_at}
use Rattle.std.proofs.Math.Bool.{true, false, cond}
use Rattle.std.proofs.lemmas.List.{length-map}
use Rattle.format.specs.Meaning.{named, guarded}
use Rattle.value_lines.specs.Meaning.{ValueLine, values_of, number_at, over}
use Rattle.fitting.specs.declared.FileRefusal.TheVariants.{Whole, Line}
use Rattle.fitting.specs.Meaning.{FileAnswer, judge, accepted, file_fault, Fitted, fitted, listed}

-- no answer that is done
abbrev pub NotDone : FileAnswer → Type 0
NotDone r = (n : ℕ) → r ≡ Ok n → ⊥

-- ---- what is written is at hand again
pub over-take : {A B : Type 0} (f : A → B) (vs : List A) (old : List B) (n : ℕ) → n ≡ length vs → take n (over (map f vs) old) ≡ map f vs
over-take f vs old n e = take_at (map f vs) (drop (length (map f vs)) old) n (length-map vs f ∙ sym e)

pub over-long : {A B : Type 0} (f : A → B) (vs : List A) (old : List B) → length vs ≤ length (over (map f vs) old)
over-long f vs old = omega (arith, length-append (map f vs) (drop (length (map f vs)) old), length-map vs f)

-- ---- the answer and the taps: done exactly if every line is accepted
pub judge-done : (n : ℕ) (vs : List ValueLine) → accepted vs ≡ true → judge n vs ≡ Ok n
unfolding accepted judge
judge-done n [] e = refl
judge-done n (v ∷ vs) e = go (eqb (number_at v) 0) (judge-done n vs) e
  where
    go : (b : Bool) → (accepted vs ≡ true → judge n vs ≡ Ok n) → cond b (accepted vs) false ≡ true
        → cond b (judge n vs) (Err (Line v.number (number_at v))) ≡ Ok n
    go true h e = h e
    go false h e = let z : ◌≡◌ {A = ℕ} 0 1 = cc in absurd (omega arith)

pub judge-not : (n : ℕ) (vs : List ValueLine) → accepted vs ≡ false → NotDone (judge n vs)
unfolding accepted judge
judge-not n [] e m d = let z : ◌≡◌ {A = ℕ} 0 1 = cc in omega arith
judge-not n (v ∷ vs) e m d = go (eqb (number_at v) 0) (λ h. judge-not n vs h m) e d
  where
    go : (b : Bool) → (accepted vs ≡ false → judge n vs ≡ Ok m → ⊥) → cond b (accepted vs) false ≡ false
        → cond b (judge n vs) (Err (Line v.number (number_at v))) ≡ Ok m → ⊥
    go true h e d = h e d
    go false h e d = let z : ◌≡◌ {A = ℕ} 0 1 = cc in omega arith

pub accepted-or : (n : ℕ) (vs : List ValueLine) → NotDone (judge n vs) → accepted vs ≡ false
accepted-or n vs h = go (accepted vs) refl
  where
    go : (b : Bool) → accepted vs ≡ b → b ≡ false
    go true e = absurd (h n (judge-done n vs e))
    go false e = refl

pub accepted-and : (n m : ℕ) (vs : List ValueLine) → judge n vs ≡ Ok m → accepted vs ≡ true
accepted-and n m vs h = go (accepted vs) refl
  where
    go : (b : Bool) → accepted vs ≡ b → b ≡ true
    go true e = refl
    go false e = absurd (judge-not n vs e m h)

-- ---- what the call leaves where a caller has a, b and c places for the three parts of the list, whatever it lends for them: `fitted_of` where these are
-- their lengths
unfoldable pub roomy_of : ℕ → ℕ → ℕ → List ℕ → List ℕ → List ℤ → List ℕ → List ℤ → Fitted
roomy_of a b c file lines raws answers taps =
    guarded (file_fault (length file) (length (values_of file)) a b c (length taps))
    (λ n. fitted (Err (Whole (named n))) lines raws answers taps)
    (listed (values_of file) lines raws answers taps)
