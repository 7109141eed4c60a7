-- The copies of a file's answer, from the case that a match found. Assumes nothing.
use Rattle.std.specs.Prelude.{◌≡◌, Ok, Err, ℕ}
use Rattle.format.specs.declared.refusal.Refusal.{Refusal}
use Rattle.format.specs.Meaning.{number}
use Rattle.fitting.specs.declared.FileRefusal.TheVariants.{Whole, Line}
use Rattle.fitting.specs.Meaning.{FileAnswer, number_f, values_f, line_f, inner_f}
use Rattle.capi.specs.declared.c_fitting.CFile.{CFile}
use Rattle.capi.specs.Meaning.{file_of}

module _ {a : FileAnswer} where
  pub copied-done : (n : ℕ) → a ≡ Ok n
      → ◌≡◌ {A = CFile} (record { number = 0; line = 0; inner = 0; values = n }) (file_of a)
  unfolding file_of number_f line_f inner_f values_f
  copied-done n e = rw e

  pub copied-refusal : (e : Refusal) → a ≡ Err (Whole e)
      → ◌≡◌ {A = CFile} (record { number = number e; line = 0; inner = 0; values = 0 }) (file_of a)
  unfolding file_of number_f line_f inner_f values_f
  copied-refusal e h = rw h

  pub copied-line : (l i : ℕ) → a ≡ Err (Line l i)
      → ◌≡◌ {A = CFile} (record { number = 42; line = l; inner = i; values = 0 }) (file_of a)
  unfolding file_of number_f line_f inner_f values_f
  copied-line l i e = rw e
