-- A list that is turned into another in place: after i places it is the first i of the new one, m, and the rest of the old one, l.
-- What is read at i is the old element; what is put there is the new one, and then i + 1 places are done. Assumes nothing.
use Rattle.std.specs.Prelude.{◌≡◌, List, ◌++◌, ℕ, suc, ◌+◌, ◌≤◌, ◌<◌, length, take, drop, get_or, set}
use Rattle.std.proofs.Common.{append_assoc, append-nil, add-one, arith, drop_of_length-le, length-take-le, take-suc, drop-cons}
use Rattle.std.proofs.lemmas.List.{get_or_at, set_at}

module _ {A : Type 0} (l m line : List A) (d : A) (i : ℕ) (h : i < length l) (k : i < length m) (so_far : line ≡ take i m ++ drop i l) where
  long : length (take i m) ≡ i
  long = length-take-le i m (omega arith)

  pub old-here : get_or line i d ≡ get_or l i d
  old-here = rw (so_far, drop-cons l i d h, get_or_at (take i m) (get_or l i d) (drop (suc i) l) d i long)

  pub new-here : (v : A) → v ≡ get_or m i d → set line i v ≡ take (i + 1) m ++ drop (i + 1) l
  new-here v e = rw (so_far, drop-cons l i d h, set_at (take i m) (get_or l i d) (drop (suc i) l) v i long, add-one i, take-suc m i d k, append_assoc, e)

pub all_new : {A : Type 0} (l m line : List A) (i : ℕ) → length l ≤ i → line ≡ take i m ++ drop i l → line ≡ take i m
all_new l m line i h so_far = rw (drop_of_length-le l h, append-nil) at so_far
