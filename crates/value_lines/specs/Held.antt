-- A loop that stores a list into the first places of a lent one: what is stored after n steps, and the laws of the start, of one step more and of the end.
-- Assumes nothing.
use Rattle.std.specs.Prelude.{◌≡◌, refl, List, ◌++◌, ℕ, ◌+◌, ◌<◌, length, take, drop, get_or, set}
use Rattle.std.proofs.Common.{sym, ap, ◌∙◌, add-one, arith, length-set, take-append-drop, drop-set-lt, drop-drop, take-suc, take-suc-set}
use Rattle.std.proofs.Math.Seq.{take-length}
use Rattle.value_lines.specs.Meaning.{over}

pub record Held {A : Type 0} (src : List A) (n : ℕ) (before after : List A) : Type 0 where
  pub first : take n after ≡ take n src
  pub rest : drop n after ≡ drop n before
  pub long : length after ≡ length before

pub held_none : {A : Type 0} (src before : List A) → Held src 0 before before
held_none src before = record { first = refl; rest = refl; long = refl }

module _ {A : Type 0} {src : List A} {n : ℕ} {before after : List A} (h : Held src n before after) where
  pub held_more : (d v : A) → n < length src → n < length before → v ≡ get_or src n d → Held src (n + 1) before (set after n v)
  held_more d v here room e =
      let there : n < length after = omega (arith, h.long) in
      record {
        first = rw (add-one, take-suc-set after n v there, take-suc src n d here, h.first, e);
        rest = drop-set-lt (n + 1) after n v (omega arith) ∙ sym (drop-drop 1 n after) ∙ ap (drop 1) h.rest ∙ drop-drop 1 n before;
        long = length-set after n v ∙ h.long;
      }

  pub held_all : n ≡ length src → after ≡ over src before
  held_all e =
      let all : take n src ≡ src = rw e (take-length src) in
      let parts : take n after ++ drop n after ≡ src ++ drop n before = rw (h.first, h.rest, all) in
      sym (take-append-drop n after) ∙ parts ∙ rw e
