-- From what a function's callees ensure to the meaning of its own answer: one law for each return. Places go by one
-- law: a part of a part is a part of the run, after what stands before both (`part_in`). Assumes nothing.
use mathlib.Core.Path.{◌≡◌, sym, ap, ◌∙◌}
use mathlib.Core.List.{◌++◌, reverse, append-nil}
use Prim.Native.Nat.{ℕ, ◌+◌, ◌-◌, ◌≤◌}
use native.Mathlib.Omega.{arith}
use lib.ListN.{length, take, drop, length-append}
use Rattle.digits.specs.Meaning.{is_und, take_while, drop_back, trimmed, unds_front, head_of, tail_of}
use Rattle.digits.specs.Meaning.{upto_of, from_of, Part, head_part, rest_part, Slice, after, PartAt}
use Rattle.digits.specs.Promise.{New, Upto, From}
use Rattle.digits.specs.Runs.{drop-while, take-while, take-back, back-length, take_head, drop_head}

-- ---- the place n bytes after p: by another name of n, and m bytes further
after-as : (p : ℕ × ℕ) {m n : ℕ} → m ≡ n → after m p ≡ after n p
after-as p e = ap (λ (k : ℕ). after k p) e

after_both : (m n : ℕ) (p : ℕ × ℕ) → after m (after n p) ≡ after (n + m) p
after_both m n p = ap (λ (k : ℕ). (p.0, k)) (omega arith)

-- the part q of a slice that is the part p of the run is the part w of the run, which stands after what is before both
pub part_in : {run s r : Slice} {p q w : Part} → PartAt run p s → PartAt s q r → p.before ++ q.before ≡ w.before
    → q.view ≡ w.view → PartAt run w r
part_in {run} {s} {r} {p} {q} e f b v =
    record {
      bytes = f.bytes ∙ v;
      place =
          f.place ∙ ap (after (length q.before)) e.place
          ∙ after_both (length q.before) (length p.before) run.ref_ptr
          ∙ after-as run.ref_ptr (sym (length-append p.before q.before) ∙ ap length b);
    }

-- trimming: f `_` in front, and b behind what is left
module _ {run rest : Slice} {f b : ℕ} (ef : f ≡ length (take_while is_und run.now))
    (er : PartAt run (rest_part run.now f) rest) (eb : b ≡ length (take_while is_und (reverse rest.now))) where
  pub trim-within : b ≤ length rest.now
  trim-within = omega (arith, back-length is_und rest.now)

  pub trim-is : {r : Slice} → PartAt rest (head_part rest.now (length rest.now - b)) r → New run r
  unfolding trimmed unds_front
  trim-is e =
      part_in er e
      (append-nil (take f run.now) ∙ ap (λ (n : ℕ). take n run.now) ef ∙ take-while is_und run.now)
      (take-back is_und rest.now (length rest.now - b) (omega (arith, back-length is_und rest.now))
      ∙ ap (drop_back is_und) (er.bytes ∙ ap (λ (n : ℕ). drop n run.now) ef ∙ drop-while is_und run.now))

-- a split at the byte p
module _ {run h r : Slice} {p : ℕ} (n : ℕ) (e : p ≡ length (head_of run.now n)) where
  pub upto_is : PartAt run (head_part run.now p) h → New h r → Upto run n r
  unfolding upto_of
  upto_is eh er =
      let q : h.now ≡ head_of run.now n = eh.bytes ∙ ap (λ (k : ℕ). take k run.now) e ∙ take_head run.now n in
      part_in eh er (ap unds_front q) (ap trimmed q)

  pub from_is : PartAt run (rest_part run.now p) h → New h r → From run n r
  unfolding from_of
  from_is eh er =
      let q : h.now ≡ tail_of run.now n = eh.bytes ∙ ap (λ (k : ℕ). drop k run.now) e ∙ drop_head run.now n in
      let b : take p run.now ≡ head_of run.now n = ap (λ (k : ℕ). take k run.now) e ∙ take_head run.now n in
      part_in eh er (rw (q, b)) (ap trimmed q)
