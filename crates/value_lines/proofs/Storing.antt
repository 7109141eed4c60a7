-- What the loop over the numbered lines goes through: pairs of a line and its number, of which those that hold a value are the file's
-- value lines; and the list with one value more and at the end. Assumes nothing.
use Rattle.std.specs.Prelude.{◌≡◌, refl, Option, Bool, true, false, cond, List, [], ◌∷◌, map, ℕ, zero, suc, ◌+◌, ◌-◌, ◌≤◌, ◌<◌, ℤ, length, get_or, set, filter}
use Rattle.std.specs.List.{zip, range_with_len, enumerate_from, onto_first}
use Rattle.std.proofs.Common.{add-one, subst, sym, ap, ◌∙◌, eqb, arith}
use Rattle.std.proofs.lemmas.Iterator.{YieldsList}
use Rattle.std.proofs.lemmas.Iterator.Consumers.{YieldsList-from_shown}
use Rattle.std.proofs.lemmas.List.{length-map}
use Rattle.std.proofs.lemmas.List.FromFn.{length-enumerate_from, get_or-enumerate_from}
use Rattle.std.proofs.Math.ListN.{get_or-map}
use Rattle.std.specs.declared.ops.RangeInclusive.{RangeInclusive}
use Rattle.std.specs.Range.{range_inclusive_start, range_inclusive_end, range_inclusive_exhausted, range_inclusive_len, range_inclusive_left, range_inclusive_steps}
use Rattle.value_lines.specs.Meaning.{file_limit, line_feed, is_value, ValueLine, value_line, values_from, values_of, line_number, raw_at, number_at}
use Rattle.value_lines.specs.Held.{Held, held_more, held_all}
use Rattle.value_lines.specs.Store.{AllEntered}
use Rattle.value_lines.specs.Lines.{parts_of}
use Rattle.value_lines.proofs.Lines.{parts-values}

-- ---- `a..=b` gives the numbers from a on
abbrev gap : ℕ → ℕ → ℕ
gap x y = y - x

abbrev pub up_steps : RangeInclusive ℕ → Option ℕ → RangeInclusive ℕ → Type 0
up_steps = range_inclusive_steps gap (λ x y. y ≡ x + 1)

abbrev left : RangeInclusive ℕ → List ℕ
left s = range_with_len (range_inclusive_start s) (range_inclusive_left gap s)

spent : (s : RangeInclusive ℕ) → range_inclusive_exhausted s ≡ true → range_inclusive_left gap s ≡ 0
spent s e = ap (range_inclusive_len gap (range_inclusive_start s) (range_inclusive_end s)) e

fresh : (s : RangeInclusive ℕ) → range_inclusive_exhausted s ≡ false → range_inclusive_left gap s ≡ range_inclusive_end s + 1 - range_inclusive_start s
fresh s e = omega (arith, ap (range_inclusive_len gap (range_inclusive_start s) (range_inclusive_end s)) e)

next-left : (s t : RangeInclusive ℕ) (x n : ℕ) → n ≡ range_inclusive_left gap t → n + 1 ≡ range_inclusive_left gap s → x ≡ range_inclusive_start s
    → (range_inclusive_exhausted t ≡ false → range_inclusive_start t ≡ range_inclusive_start s + 1) → left s ≡ x ∷ left t
next-left s t x n e f g h = go (range_inclusive_exhausted t) refl n e f
  where
    go : (b : Bool) → range_inclusive_exhausted t ≡ b → (n : ℕ) → n ≡ range_inclusive_left gap t → n + 1 ≡ range_inclusive_left gap s → left s ≡ x ∷ left t
    go true b zero e f = rw (← f, ← e, g) refl
    go true b (suc n) e f = absurd (omega (arith, e, spent t b))
    go false b n e f = rw (← f, ← e, g, h b, add-one) refl

pub inclusive : {s : RangeInclusive ℕ} (a b n : ℕ) → range_inclusive_start s ≡ a → range_inclusive_end s ≡ b → range_inclusive_exhausted s ≡ false
    → b + 1 - a ≡ n → YieldsList up_steps (λ x. x) s (range_with_len a n)
inclusive {s} a b n e f g h =
    let count : range_inclusive_left gap s ≡ n = omega (arith, fresh s g, e, f, h) in
    let all : left s ≡ range_with_len a n = ap (λ (k : ℕ). range_with_len k (range_inclusive_left gap s)) e ∙ ap (range_with_len a) count in
    subst (λ (l : List ℕ). YieldsList up_steps (λ x. x) s l) all (YieldsList-from_shown up_steps (λ x. x) left
    (λ t u k. ap (λ m. length (range_with_len (range_inclusive_start t) m)) k.1.0)
    (λ t x u k. next-left t u x (range_inclusive_left gap u) refl k.1.1 k.1.0 k.1.2) s)

-- ---- the lines with their numbers
abbrev pub numbered : List ℕ × ℕ → ValueLine
numbered p = value_line p.1 p.0

abbrev pub holds_value : List ℕ × ℕ → Bool
holds_value p = is_value p.0

numbered-from : (n m : ℕ) (lines : List (List ℕ)) → length lines ≤ m → map numbered (filter holds_value (zip lines (range_with_len n m))) ≡ values_from n lines
unfolding values_from
numbered-from n m [] h = refl
numbered-from n zero (line ∷ lines) h = absurd (omega arith)
numbered-from n (suc m) (line ∷ lines) h = go (is_value line) (filter holds_value (zip lines (range_with_len (n + 1) m))) (numbered-from (n + 1) m lines (omega arith))
  where
    go : (b : Bool) (rest : List (List ℕ × ℕ)) → map numbered rest ≡ values_from (n + 1) lines
        → map numbered (cond b ((line, n) ∷ rest) rest) ≡ cond b (value_line n line ∷ values_from (n + 1) lines) (values_from (n + 1) lines)
    go true rest h = ap (λ (l : List ValueLine). value_line n line ∷ l) h
    go false rest h = h

few_parts : (file : List ℕ) → length (parts_of file) ≤ length file + 1
few_parts [] = omega arith
few_parts (b ∷ file) = go (eqb b line_feed) (parts_of file) (few_parts file)
  where
    go : (e : Bool) (parts : List (List ℕ)) → length parts ≤ length file + 1 → length (cond e ([] ∷ parts) (onto_first b parts)) ≤ suc (length file) + 1
    go true parts h = omega (arith, h)
    go false [] h = omega arith
    go false (line ∷ parts) h = omega (arith, h)

-- `1..=u32::MAX`, more than a file has lines
abbrev pub numbers : ℕ
numbers = 4294967295

-- what the loop goes through
module _ (file : List ℕ) (short : length file ≤ file_limit) where
  abbrev pairs : List (List ℕ × ℕ)
  pairs = filter holds_value (zip (parts_of file) (range_with_len 1 numbers))

  abbrev turns : List (ℕ × (List ℕ × ℕ))
  turns = enumerate_from 0 pairs

  same : map numbered pairs ≡ values_of file
  unfolding values_of
  same = numbered-from 1 numbers (parts_of file) (omega (arith, short, few_parts file)) ∙ parts-values 1 file

  count : length turns ≡ length (values_of file)
  count = length-enumerate_from 0 pairs ∙ sym (length-map pairs numbered) ∙ ap length same

  -- turn i is at place i
  abbrev pub Turn : ℕ → ℕ → ℕ → List ℕ → Type 0
  Turn i n number line = (i < length turns) × ◌≡◌ {A = ℕ × (List ℕ × ℕ)} (n, (line, number)) (get_or turns i (n, (line, number)))

  -- it has the value there
  module _ {i n number : ℕ} {line : List ℕ} (turn : Turn i n number line) where
    some-left : i < length (values_of file)
    some-left = omega (arith, turn.0, count)

    place : ◌≡◌ {A = ℕ × (List ℕ × ℕ)} (n, (line, number)) (0 + i, get_or pairs i (line, number))
    place = turn.1 ∙ get_or-enumerate_from 0 pairs i (n, (line, number)) (omega (arith, turn.0, length-enumerate_from 0 pairs))

    place-is : n ≡ i
    place-is = omega (arith, ap (λ (p : ℕ × (List ℕ × ℕ)). p.0) place)

    pub here : n < length (values_of file)
    here = rw place-is some-left

    value-is : value_line number line ≡ get_or (values_of file) i (value_line number line)
    value-is = ap (λ (p : ℕ × (List ℕ × ℕ)). numbered p.1) place ∙ sym (get_or-map numbered pairs i (line, number))
        ∙ ap (λ (l : List ValueLine). get_or l i (value_line number line)) same

    pub held_turn : {B : Type 0} (f : ValueLine → B) {before after : List B} {k : ℕ} {b : B} → Held (map f (values_of file)) i before after
        → length (values_of file) ≤ length before → k ≡ i + 1 → b ≡ f (value_line number line)
        → Held (map f (values_of file)) k before (set after n b)
    held_turn f h room e is =
        let there : i < length (map f (values_of file)) = rw (length-map (values_of file) f) some-left in
        rw (e, is, place-is) (held_more h (f (value_line number line)) (f (value_line number line)) there (omega (arith, some-left, room))
        (ap f value-is ∙ sym (get_or-map f (values_of file) i (value_line number line))))

  -- behind the loop all values are in the list
  pub all_turns : (i : ℕ) → i ≡ length turns → {lines : List ℕ} {raws : List ℤ} {answers lines' : List ℕ} {raws' : List ℤ} {answers' : List ℕ}
      → Held (map line_number (values_of file)) i lines lines' → Held (map raw_at (values_of file)) i raws raws'
      → Held (map number_at (values_of file)) i answers answers' → AllEntered (values_of file) lines raws answers lines' raws' answers'
  all_turns i end l r a = record {
    lines_are = held_all l (end ∙ count ∙ sym (length-map (values_of file) line_number));
    raws-are = held_all r (end ∙ count ∙ sym (length-map (values_of file) raw_at));
    answers-are = held_all a (end ∙ count ∙ sym (length-map (values_of file) number_at));
  }
