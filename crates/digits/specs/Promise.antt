-- What each public function promises of its answer r, by name, and that the promise leaves nothing open: two answers
-- that meet it are equal, and two slices stand at the same place and have the same bytes. Assumes nothing.
use Rattle.std.specs.Prelude.{◌≡◌, List, ℕ, ◌-◌, length, Option}
use Rattle.laws.specs.Unique.{unique}
use Rattle.digits.specs.Meaning.{digits_of, first_of, last_of, leading_zeros, trailing_zeros}
use Rattle.digits.specs.Meaning.{Part, new_part, upto_part, from_part, Slice, PartAt}

-- Two slices that are both the part p. Place and length decide a slice: the logic's third field of a reference, a name
-- under which proofs track it, is no part of the answer.
pub record SameSlice (r s : Slice) : Type 0 where
  pub place : r.ref_ptr ≡ s.ref_ptr
  pub bytes : r.now ≡ s.now

pub same-part : {run : Slice} {p : Part} {r s : Slice} → PartAt run p r → PartAt run p s → SameSlice r s
same-part e f = record { place = unique e.place f.place; bytes = unique e.bytes f.bytes }

abbrev pub New : Slice → Slice → Type 0
New run r = PartAt run (new_part run.now) r

pub new-unique : (run : Slice) {r s : Slice} → New run r → New run s → SameSlice r s
new-unique run e f = same-part e f

abbrev pub Len : List ℕ → ℕ → Type 0
Len run r = r ≡ length (digits_of run)

pub len-unique : (run : List ℕ) {r s : ℕ} → Len run r → Len run s → r ≡ s
len-unique run e f = unique e f

abbrev pub Upto : Slice → ℕ → Slice → Type 0
Upto run mid r = PartAt run (upto_part run.now mid) r

pub upto-unique : (run : Slice) (mid : ℕ) {r s : Slice} → Upto run mid r → Upto run mid s → SameSlice r s
upto-unique run mid e f = same-part e f

abbrev pub From : Slice → ℕ → Slice → Type 0
From run mid r = PartAt run (from_part run.now mid) r

pub from-unique : (run : Slice) (mid : ℕ) {r s : Slice} → From run mid r → From run mid s → SameSlice r s
from-unique run mid e f = same-part e f

abbrev pub First : List ℕ → Option ℕ → Type 0
First run r = r ≡ first_of (digits_of run)

pub first-unique : (run : List ℕ) {r s : Option ℕ} → First run r → First run s → r ≡ s
first-unique run e f = unique e f

abbrev pub AfterFirst : Slice → Slice → Type 0
AfterFirst run r = From run 1 r

pub after-first-unique : (run : Slice) {r s : Slice} → AfterFirst run r → AfterFirst run s → SameSlice r s
after-first-unique run e f = same-part e f

abbrev pub Last : List ℕ → Option ℕ → Type 0
Last run r = r ≡ last_of (digits_of run)

pub last-unique : (run : List ℕ) {r s : Option ℕ} → Last run r → Last run s → r ≡ s
last-unique run e f = unique e f

abbrev pub BeforeLast : Slice → Slice → Type 0
BeforeLast run r = Upto run (length (digits_of run.now) - 1) r

pub before-last-unique : (run : Slice) {r s : Slice} → BeforeLast run r → BeforeLast run s → SameSlice r s
before-last-unique run e f = same-part e f

abbrev pub LeadingZeros : List ℕ → ℕ → Type 0
LeadingZeros run r = r ≡ leading_zeros (digits_of run)

pub leading-zeros-unique : (run : List ℕ) {r s : ℕ} → LeadingZeros run r → LeadingZeros run s → r ≡ s
leading-zeros-unique run e f = unique e f

abbrev pub WithoutLeadingZeros : Slice → Slice → Type 0
WithoutLeadingZeros run r = From run (leading_zeros (digits_of run.now)) r

pub without-leading-zeros-unique : (run : Slice) {r s : Slice}
    → WithoutLeadingZeros run r → WithoutLeadingZeros run s → SameSlice r s
without-leading-zeros-unique run e f = same-part e f

abbrev pub TrailingZeros : List ℕ → ℕ → Type 0
TrailingZeros run r = r ≡ trailing_zeros (digits_of run)

pub trailing-zeros-unique : (run : List ℕ) {r s : ℕ} → TrailingZeros run r → TrailingZeros run s → r ≡ s
trailing-zeros-unique run e f = unique e f

abbrev pub WithoutTrailingZeros : Slice → Slice → Type 0
WithoutTrailingZeros run r = Upto run (length (digits_of run.now) - trailing_zeros (digits_of run.now)) r

pub without-trailing-zeros-unique : (run : Slice) {r s : Slice}
    → WithoutTrailingZeros run r → WithoutTrailingZeros run s → SameSlice r s
without-trailing-zeros-unique run e f = same-part e f
