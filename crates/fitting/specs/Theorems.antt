-- What is proved of the meaning of a fitting file: which line 42 names. What is proved of its lines and values is in `value_lines`. Assumes nothing.
use Rattle.std.specs.Prelude.{◌≡◌, Err, Bool, true, false, cond, List, [], ◌∷◌, ◌++◌, ℕ, eqb}
use Rattle.std.proofs.Common.{arith, ne_eqb}
use Rattle.value_lines.specs.Meaning.{ValueLine, number_at}
use Rattle.fitting.specs.declared.FileRefusal.TheVariants.{Line}
use Rattle.fitting.specs.Meaning.{judge, accepted}

-- ---- 42 names the first refused line: those before it are accepted, whatever comes after.
pub first-refused : (n : ℕ) (before : List ValueLine) (v : ValueLine) (after : List ValueLine) → accepted before ≡ true → (number_at v ≡ 0 → ⊥)
    → judge n (before ++ v ∷ after) ≡ Err (Line v.number (number_at v))
unfolding judge accepted
first-refused n [] v after a h = rw (ne_eqb (number_at v) 0 h)
first-refused n (u ∷ before) v after a h = go (eqb (number_at u) 0) a (λ b. first-refused n before v after b h)
  where
    go : (b : Bool) → cond b (accepted before) false ≡ true → (accepted before ≡ true → judge n (before ++ v ∷ after) ≡ Err (Line v.number (number_at v)))
        → cond b (judge n (before ++ v ∷ after)) (Err (Line u.number (number_at u))) ≡ Err (Line v.number (number_at v))
    go true a f = f a
    go false a f = let z : ◌≡◌ {A = ℕ} 0 1 = cc in absurd (omega arith)
