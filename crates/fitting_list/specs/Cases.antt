-- The small files of crates/fitting/specs/Cases.antt with the list as records; proofs/Cases.antt proves that all of this holds. Assumes nothing.
use Rattle.std.specs.Prelude.{◌≡◌, List, [], ◌∷◌, ℕ, ◌<◌, ◌≤◌, ℤ, pos, negsuc, length, replicate, Ok, Err}
use Prim.Native.String.{String}
use Rattle.laws.specs.Text.{bytes}
use Rattle.format.specs.declared.refusal.Refusal.TheVariants.{TooLong, TooManyValues}
use Rattle.format.specs.Meaning.{named}
use Rattle.filter.specs.Meaning.{most_taps}
use Rattle.value_lines.specs.Meaning.{file_limit, values_of}
use Rattle.fitting.specs.declared.FileRefusal.TheVariants.{Whole, Line}
use Rattle.fitting.specs.Meaning.{FileAnswer}
use Rattle.fitting_list.specs.declared.Entry.{Entry}
use Rattle.fitting_list.specs.Meaning.{records, records_of}

-- line number, raw and answer
abbrev entry : ℕ → ℤ → ℕ → Entry
entry line raw answer = record { line = line; raw = raw; answer = answer }

-- taps and a list of some places, all 7
abbrev signed-sevens : ℕ → List ℤ
signed-sevens n = replicate n (pos 7)

abbrev seven : Entry
seven = entry 7 (pos 7) 7

abbrev seven-entries : ℕ → List Entry
seven-entries n = replicate n seven

-- with n places each: the answer, the list, the taps
abbrev Gives : String → ℕ → FileAnswer → List Entry → List ℤ → Type 0
Gives file n answer list taps = records_of (bytes file) (seven-entries n) (signed-sevens n) ≡ records answer list taps

-- the same where nothing is changed
abbrev Untouched : String → ℕ → ℕ → Type 0
Untouched file n number = Gives file n (Err (Whole (named number))) (seven-entries n) (signed-sevens n)

pub record ListCases : Type 0 where
  -- two values with a comment and an empty line; the last line has no LF; the third place stays
  pub taps-list-case : Gives "# taps\n0.5\n\n-1" 3 (Ok 2) (entry 2 (pos 16384) 0 ∷ entry 4 (negsuc 32767) 0 ∷ seven ∷ [])
      (pos 16384 ∷ negsuc 32767 ∷ pos 7 ∷ [])
  -- the second line is refused, 1 does not fit; the third is read all the same; the taps stay
  pub line-list-case : Gives "0.5\n1\n0x0.8\n+0.5" 4 (Err (Line 2 10))
      (entry 1 (pos 16384) 0 ∷ entry 2 (pos 0) 10 ∷ entry 3 (pos 16384) 0 ∷ entry 4 (pos 0) 12 ∷ []) (signed-sevens 4)
  -- CR belongs to its line, and so do blanks; `#` starts a comment only where it stands first
  pub damaged-list-cases :
      Gives "0.5\r\n" 1 (Err (Line 1 13)) (entry 1 (pos 0) 13 ∷ []) (signed-sevens 1)
      × (Gives " #" 1 (Err (Line 1 13)) (entry 1 (pos 0) 13 ∷ []) (signed-sevens 1)
      × Gives "0.5 # half" 1 (Err (Line 1 13)) (entry 1 (pos 0) 13 ∷ []) (signed-sevens 1))
  -- no value; a place too few, also where a line is refused
  pub refusal-list-cases :
      Untouched "" 1 40
      × (Untouched "# nothing\n\n" 1 40
      × (Untouched "0.5\n0.25\n" 1 5
      × Untouched "0.5\nx\n" 1 5))
  -- Several apply, in any file: 4 before 41, and 41 before 5. 5 and 40 do not meet here: records have one length, so 5 says that a value has no place.
  pub order-list-cases : (file : List ℕ) (xs : List Entry) (taps : List ℤ)
      → (file_limit < length file → records_of file xs taps ≡ records (Err (Whole TooLong)) xs taps)
      × (length file ≤ file_limit → most_taps < length (values_of file) → records_of file xs taps ≡ records (Err (Whole TooManyValues)) xs taps)
