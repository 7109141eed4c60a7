-- What `read` promises, refusals included, and that nothing is left open: two outcomes that meet the promise are equal.
-- Assumes nothing.
use Rattle.std.specs.Prelude.{◌≡◌, List, ℕ, ℤ}
use Rattle.std.proofs.Common.{sym, ap, ◌∙◌}
use Rattle.fitting.specs.Meaning.{FileAnswer, Fitted, fitted, fitted_of}

abbrev pub Reads : List ℕ → List ℕ → List ℤ → List ℕ → List ℤ → FileAnswer → List ℕ → List ℤ → List ℕ → List ℤ → Type 0
Reads file lines raws answers taps r lines' raws' answers' taps' =
    fitted r lines' raws' answers' taps' ≡ fitted_of file lines raws answers taps

-- the parts of one outcome that two calls can differ in
pub record Same (f g : Fitted) : Type 0 where
  pub answer : f.answer ≡ g.answer
  pub lines : f.lines ≡ g.lines
  pub raws : f.raws ≡ g.raws
  pub answers : f.answers ≡ g.answers
  pub taps : f.taps ≡ g.taps

module _ (file lines : List ℕ) (raws : List ℤ) (answers : List ℕ) (taps : List ℤ) where
  pub read-unique : (a b : FileAnswer) (l m : List ℕ) (r s : List ℤ) (p q : List ℕ) (t u : List ℤ)
      → Reads file lines raws answers taps a l r p t → Reads file lines raws answers taps b m s q u
      → Same (fitted a l r p t) (fitted b m s q u)
  read-unique a b l m r s p q t u h k =
      let e = h ∙ sym k in
      record {
        answer = ap (λ (x : Fitted). x.answer) e;
        lines = ap (λ (x : Fitted). x.lines) e;
        raws = ap (λ (x : Fitted). x.raws) e;
        answers = ap (λ (x : Fitted). x.answers) e;
        taps = ap (λ (x : Fitted). x.taps) e;
      }
