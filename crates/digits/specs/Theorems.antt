-- What is proved of the meaning of a view: it stands for the digits of its run; what stands before it, the view and
-- what stands behind it make up the run, so its place is where its bytes are; the parts of a split make up the digits;
-- and every part is a view again. Assumes nothing.
use Rattle.std.specs.Prelude.{◌≡◌, refl, Bool, true, false, cond, ℕ, zero, suc, ◌-◌, ◌≤◌, length, take, drop, replicate, Option, Some, None}
use Rattle.std.proofs.Common.{sym, ap, subst, ◌∙◌, arith, length-drop, take-append-drop, take_at, eqb-true, ne_eqb}
use mathlib.Core.List.{List, [], ◌∷◌, ◌++◌, reverse, reverse-cons, reverse-append, reverse-reverse, append_assoc, append-nil}
use Rattle.std.proofs.lemmas.List.{length-reverse}
use Rattle.std.proofs.Math.Seq.{take-nil, drop-nil}
use Rattle.digits.specs.Meaning.{is_und, is_zero, digits_of, take_while, drop_while, take_back, drop_back, trimmed}
use Rattle.digits.specs.Meaning.{unds_front, unds_back, StartsWithNo, IsView, head_of, tail_of, upto_of, from_of}
use Rattle.digits.specs.Meaning.{Part, whole_run, head_part, rest_part, new_part, upto_part, from_part}
use Rattle.digits.specs.Meaning.{first_of, last_of, leading_zeros, trailing_zeros}
use Rattle.digits.specs.Runs.{digits-reverse, while-whole, while-length, back_whole, back-length, drop-while}
use Rattle.digits.specs.Runs.{take-back, all_are, middle, parts_whole, replicate-reverse}

-- ---- the digits of a view are those of its run
pub front-digits : (t : List ℕ) → digits_of (drop_while is_und t) ≡ digits_of t
unfolding digits_of drop_while
front-digits [] = refl
front-digits (b ∷ t) = go (is_und b) refl (front-digits t)
  where
    go : (u : Bool) → is_und b ≡ u → digits_of (drop_while is_und t) ≡ digits_of t
        → digits_of (cond u (drop_while is_und t) (b ∷ t)) ≡ cond u (digits_of t) (b ∷ digits_of t)
    go true q e = e
    go false q e = rw q

pub back-digits : (t : List ℕ) → digits_of (drop_back is_und t) ≡ digits_of t
unfolding drop_back
back-digits t =
    digits-reverse (drop_while is_und (reverse t)) ∙ ap reverse (front-digits (reverse t)) ∙ ap reverse (digits-reverse t) ∙ reverse-reverse (digits_of t)

pub trimmed-digits : (t : List ℕ) → digits_of (trimmed t) ≡ digits_of t
unfolding trimmed
trimmed-digits t = back-digits (drop_while is_und t) ∙ front-digits t

-- ---- "Dropped bytes in front, view, and dropped bytes behind make up the whole run again"
pub new-whole : (t : List ℕ) → whole_run (new_part t) ≡ t
unfolding trimmed unds_front unds_back
new-whole t = ap (λ (l : List ℕ). take_while is_und t ++ l) (back_whole is_und (drop_while is_und t)) ∙ while-whole is_und t

pub upto-whole : (t : List ℕ) (n : ℕ) → whole_run (upto_part t n) ≡ t
unfolding upto_of
upto-whole t n =
    let w : whole_run (new_part (head_of t n)) ++ tail_of t n ≡ t = rw (new-whole (head_of t n)) (parts_whole t n) in
    simp append_assoc at w

pub from-whole : (t : List ℕ) (n : ℕ) → whole_run (from_part t n) ≡ t
unfolding from_of
from-whole t n =
    append_assoc (head_of t n) (unds_front (tail_of t n)) (trimmed (tail_of t n) ++ unds_back (tail_of t n))
    ∙ ap (λ (l : List ℕ). head_of t n ++ l) (new-whole (tail_of t n)) ∙ parts_whole t n

pub head-whole : (t : List ℕ) (n : ℕ) → whole_run (head_part t n) ≡ t
head-whole t n = take-append-drop n t

pub rest-whole : (t : List ℕ) (n : ℕ) → whole_run (rest_part t n) ≡ t
rest-whole t n = rw append-nil (take-append-drop n t)

-- so the bytes at the place of a view are the view
pub part-stands : (t : List ℕ) (p : Part) → whole_run p ≡ t
    → take (length p.view) (drop (length p.before) t) ≡ p.view
part-stands t p w = rw (← w) (middle p.before p.view p.behind)

pub new-stands : (t : List ℕ) → take (length (trimmed t)) (drop (length (unds_front t)) t) ≡ trimmed t
new-stands t = part-stands t (new_part t) (new-whole t)

pub upto-stands : (t : List ℕ) (n : ℕ)
    → take (length (upto_of t n)) (drop (length (unds_front (head_of t n))) t) ≡ upto_of t n
upto-stands t n = part-stands t (upto_part t n) (upto-whole t n)

-- what `new` drops are `_`
unds-are : (t : List ℕ) → take_while is_und t ≡ replicate (length (take_while is_und t)) 95
unfolding is_und
unds-are t = all_are is_und 95 (λ b q. eqb-true b 95 q) t

pub front-unds : (t : List ℕ) → unds_front t ≡ replicate (length (unds_front t)) 95
unfolding unds_front
front-unds t = unds-are t

pub back-unds : (t : List ℕ) → unds_back t ≡ replicate (length (unds_back t)) 95
unfolding unds_back take_back
back-unds t =
    let r = reverse (drop_while is_und t) in
    ap reverse (unds-are r) ∙ replicate-reverse (length (take_while is_und r)) 95
    ∙ ap (λ (n : ℕ). replicate n 95) (sym (length-reverse (take_while is_und r)))

-- and so have no digits
pub front-no-digits : (t : List ℕ) → digits_of (unds_front t) ≡ []
unfolding unds_front digits_of take_while
front-no-digits [] = refl
front-no-digits (b ∷ t) = go (is_und b) refl (front-no-digits t)
  where
    go : (u : Bool) → is_und b ≡ u → digits_of (take_while is_und t) ≡ [] → digits_of (cond u (b ∷ take_while is_und t) []) ≡ []
    go true q e = rw q e
    go false q e = refl

pub back-no-digits : (t : List ℕ) → digits_of (unds_back t) ≡ []
unfolding unds_back take_back unds_front
back-no-digits t =
    digits-reverse (take_while is_und (reverse (drop_while is_und t))) ∙ ap reverse (front-no-digits (reverse (drop_while is_und t)))

-- ---- the view of a run is a view, and the view of a view is itself
pub drop-starts : (p : ℕ → Bool) (t : List ℕ) → StartsWithNo p (drop_while p t)
unfolding StartsWithNo drop_while
drop-starts p [] = tt
drop-starts p (b ∷ t) = go (p b) refl (drop-starts p t)
  where
    go : (u : Bool) → p b ≡ u → StartsWithNo p (drop_while p t) → StartsWithNo p (cond u (drop_while p t) (b ∷ t))
    go true q h = h
    go false q h = q

pub prefix-starts : (p : ℕ → Bool) (s t : List ℕ) → StartsWithNo p (s ++ t) → StartsWithNo p s
unfolding StartsWithNo
prefix-starts p [] t h = tt
prefix-starts p (b ∷ s) t h = h

pub starts-kept : (p : ℕ → Bool) (t : List ℕ) → StartsWithNo p t → drop_while p t ≡ t
unfolding StartsWithNo drop_while
starts-kept p [] h = refl
starts-kept p (b ∷ t) h = rw h

pub back-starts : (p : ℕ → Bool) (t : List ℕ) → StartsWithNo p (reverse (drop_back p t))
unfolding drop_back
back-starts p t = subst (StartsWithNo p) (sym (reverse-reverse (drop_while p (reverse t)))) (drop-starts p (reverse t))

pub back-front : (p : ℕ → Bool) (t : List ℕ) → StartsWithNo p t → StartsWithNo p (drop_back p t)
back-front p t h = prefix-starts p (drop_back p t) (take_back p t) (subst (StartsWithNo p) (sym (back_whole p t)) h)

pub trimmed-view : (t : List ℕ) → IsView (trimmed t)
unfolding trimmed
trimmed-view t =
    record {
      front = back-front is_und (drop_while is_und t) (drop-starts is_und t);
      back = back-starts is_und (drop_while is_und t);
    }

pub view-trimmed : (t : List ℕ) → IsView t → trimmed t ≡ t
unfolding trimmed drop_back
view-trimmed t v =
    ap (λ (l : List ℕ). reverse (drop_while is_und (reverse l))) (starts-kept is_und t v.front)
    ∙ ap reverse (starts-kept is_und (reverse t) v.back) ∙ reverse-reverse t

-- ---- a split: which digits each part stands for, that they make up all, and that each is a view
pub head-digits : (t : List ℕ) (n : ℕ) → digits_of (head_of t n) ≡ take n (digits_of t)
unfolding head_of digits_of
head-digits [] n = sym (take-nil n)
head-digits (b ∷ t) zero = refl
head-digits (b ∷ t) (suc n) = rw (ne_eqb (suc n) 0 (λ e. omega arith)) (go (is_und b) refl (head-digits t (suc n)) (head-digits t n))
  where
    go : (u : Bool) → is_und b ≡ u → digits_of (head_of t (suc n)) ≡ take (suc n) (digits_of t) → digits_of (head_of t n) ≡ take n (digits_of t)
        → digits_of (b ∷ head_of t (cond u (suc n) (suc n - 1))) ≡ take (suc n) (cond u (digits_of t) (b ∷ digits_of t))
    go true q e f = rw q e
    go false q e f = let z : suc n - 1 ≡ n = omega arith in rw (q, z, f)

pub tail-digits : (t : List ℕ) (n : ℕ) → digits_of (tail_of t n) ≡ drop n (digits_of t)
unfolding tail_of digits_of
tail-digits [] n = sym (drop-nil n)
tail-digits (b ∷ t) zero = refl
tail-digits (b ∷ t) (suc n) = rw (ne_eqb (suc n) 0 (λ e. omega arith)) (go (is_und b) (tail-digits t (suc n)) (tail-digits t n))
  where
    go : (u : Bool) → digits_of (tail_of t (suc n)) ≡ drop (suc n) (digits_of t) → digits_of (tail_of t n) ≡ drop n (digits_of t)
        → digits_of (tail_of t (cond u (suc n) (suc n - 1))) ≡ drop (suc n) (cond u (digits_of t) (b ∷ digits_of t))
    go true e f = e
    go false e f = let z : suc n - 1 ≡ n = omega arith in rw (z, f)

pub upto-digits : (t : List ℕ) (n : ℕ) → digits_of (upto_of t n) ≡ take n (digits_of t)
unfolding upto_of
upto-digits t n = trimmed-digits (head_of t n) ∙ head-digits t n

pub from-digits : (t : List ℕ) (n : ℕ) → digits_of (from_of t n) ≡ drop n (digits_of t)
unfolding from_of
from-digits t n = trimmed-digits (tail_of t n) ∙ tail-digits t n

pub split-digits : (t : List ℕ) (n : ℕ) → digits_of (upto_of t n) ++ digits_of (from_of t n) ≡ digits_of t
split-digits t n = rw (upto-digits, from-digits, take-append-drop)

pub upto-view : (t : List ℕ) (n : ℕ) → IsView (upto_of t n)
unfolding upto_of
upto-view t n = trimmed-view (head_of t n)

pub from_view : (t : List ℕ) (n : ℕ) → IsView (from_of t n)
unfolding from_of
from_view t n = trimmed-view (tail_of t n)

-- only `_` are left out
pub split-whole : (t : List ℕ) (n : ℕ)
    → (unds_front (head_of t n) ++ (upto_of t n ++ unds_back (head_of t n))) ++ (unds_front (tail_of t n) ++ (from_of t n ++ unds_back (tail_of t n))) ≡ t
unfolding upto_of from_of
split-whole t n = rw (new-whole (head_of t n), new-whole (tail_of t n), parts_whole)

-- of a view, nothing is left out but the `_` between the two
starts_none : (p : ℕ → Bool) (t : List ℕ) → StartsWithNo p t → take_while p t ≡ []
unfolding StartsWithNo take_while
starts_none p [] h = refl
starts_none p (b ∷ t) h = rw h

view-head : (t : List ℕ) (n : ℕ) → IsView t → unds_front (head_of t n) ≡ []
unfolding unds_front
view-head t n v =
    starts_none is_und (head_of t n) (prefix-starts is_und (head_of t n) (tail_of t n) (subst (StartsWithNo is_und) (sym (parts_whole t n)) v.front))

view-tail : (t : List ℕ) (n : ℕ) → IsView t → unds_back (tail_of t n) ≡ []
unfolding unds_back take_back
view-tail t n v =
    let u = drop_while is_und (tail_of t n) in
    let w : (head_of t n ++ take_while is_und (tail_of t n)) ++ u ≡ t =
    append_assoc (head_of t n) (take_while is_und (tail_of t n)) u ∙ ap (λ (l : List ℕ). head_of t n ++ l) (while-whole is_und (tail_of t n)) ∙ parts_whole t n in
    let r : reverse t ≡ reverse u ++ reverse (head_of t n ++ take_while is_und (tail_of t n)) =
    ap reverse (sym w) ∙ reverse-append (head_of t n ++ take_while is_und (tail_of t n)) u in
    ap reverse
    (starts_none is_und (reverse u)
    (prefix-starts is_und (reverse u) (reverse (head_of t n ++ take_while is_und (tail_of t n))) (subst (StartsWithNo is_und) r v.back)))

pub split-view : (t : List ℕ) (n : ℕ) → IsView t → upto_of t n ++ ((unds_back (head_of t n) ++ unds_front (tail_of t n)) ++ from_of t n) ≡ t
split-view t n v =
    let a = upto_of t n in
    let b = unds_back (head_of t n) in
    let c = unds_front (tail_of t n) in
    let d = from_of t n in
    let w : (unds_front (head_of t n) ++ (a ++ b)) ++ (c ++ (d ++ unds_back (tail_of t n))) ≡ t = split-whole t n in
    let x : (a ++ b) ++ (c ++ (d ++ [])) ≡ t =
    rw (view-head t n v, view-tail t n v) at w in
    ap (λ (l : List ℕ). a ++ l) (append_assoc b c d) ∙ sym (append_assoc a b (c ++ d)) ∙ ap (λ (l : List ℕ). (a ++ b) ++ (c ++ l)) (sym (append-nil d)) ∙ x

-- ---- lists
at_front : (d : List ℕ) {b : ℕ} → first_of d ≡ Some b → b ∷ drop 1 d ≡ d
unfolding first_of
at_front [] e = absurd (never e)
  where
    never : {b : ℕ} → ◌≡◌ {A = Option ℕ} None (Some b) → ⊥
    never q = let z : ◌≡◌ {A = ℕ} 0 1 = cc in omega arith
at_front (x ∷ d) {b} e = let q : x ≡ b = cc in rw q

at_back : (d : List ℕ) {b : ℕ} → last_of d ≡ Some b → take (length d - 1) d ++ (b ∷ []) ≡ d
unfolding last_of
at_back d {b} e =
    let r = reverse d in
    let q : reverse (drop 1 r) ++ (b ∷ []) ≡ d = sym (reverse-cons b (drop 1 r)) ∙ ap reverse (at_front r e) ∙ reverse-reverse d in
    let k : length (reverse (drop 1 r)) ≡ length d - 1 = omega (arith, length-reverse (drop 1 r), length-drop 1 r, length-reverse d) in
    ap (λ (l : List ℕ). take (length d - 1) l ++ (b ∷ [])) (sym q) ∙ ap (λ (l : List ℕ). l ++ (b ∷ [])) (take_at (reverse (drop 1 r)) (b ∷ []) (length d - 1) k)
    ∙ q

-- ---- the first and the last digit are the bytes at the ends of the view
pub starts_first : (t : List ℕ) → StartsWithNo is_und t → first_of t ≡ first_of (digits_of t)
unfolding StartsWithNo first_of digits_of
starts_first [] h = refl
starts_first (b ∷ t) h = rw h

pub view_first : (t : List ℕ) → first_of (trimmed t) ≡ first_of (digits_of t)
view_first t = starts_first (trimmed t) (trimmed-view t).front ∙ ap first_of (trimmed-digits t)

pub view-last : (t : List ℕ) → last_of (trimmed t) ≡ last_of (digits_of t)
unfolding last_of
view-last t =
    starts_first (reverse (trimmed t)) (trimmed-view t).back ∙ ap first_of (digits-reverse (trimmed t) ∙ ap reverse (trimmed-digits t))

-- ---- zeros: what is counted are zeros, what is left has none at that end, and the two make up the digits
pub zeros-are : (d : List ℕ) → take_while is_zero d ≡ replicate (leading_zeros d) 48
unfolding leading_zeros is_zero
zeros-are d = all_are is_zero 48 (λ b q. eqb-true b 48 q) d

-- there are no more zeros than digits
pub trailing-within : (d : List ℕ) → trailing_zeros d ≤ length d
unfolding trailing_zeros
trailing-within d = omega (arith, back-length is_zero d)

pub leading-within : (d : List ℕ) → leading_zeros d ≤ length d
unfolding leading_zeros
leading-within d = omega (arith, while-length is_zero d)

pub leading-left : (d : List ℕ) → drop (leading_zeros d) d ≡ drop_while is_zero d
unfolding leading_zeros
leading-left d = drop-while is_zero d

pub trailing-left : (d : List ℕ) → take (length d - trailing_zeros d) d ≡ drop_back is_zero d
unfolding trailing_zeros
trailing-left d = take-back is_zero d (length d - length (take_while is_zero (reverse d))) (omega (arith, back-length is_zero d))

pub leading-whole : (d : List ℕ) → replicate (leading_zeros d) 48 ++ drop_while is_zero d ≡ d
leading-whole d = ap (λ (l : List ℕ). l ++ drop_while is_zero d) (sym (zeros-are d)) ∙ while-whole is_zero d

pub trailing-whole : (d : List ℕ) → drop_back is_zero d ++ replicate (trailing_zeros d) 48 ≡ d
unfolding drop_back trailing_zeros leading_zeros
trailing-whole d =
    let r = reverse d in
    ap (λ (l : List ℕ). reverse (drop_while is_zero r) ++ l) (sym (replicate-reverse (length (take_while is_zero r)) 48))
    ∙ sym (reverse-append (replicate (length (take_while is_zero r)) 48) (drop_while is_zero r))
    ∙ ap reverse (leading-whole r) ∙ reverse-reverse d

pub without-leading-digits : (t : List ℕ) → digits_of (from_of t (leading_zeros (digits_of t))) ≡ drop_while is_zero (digits_of t)
without-leading-digits t = from-digits t (leading_zeros (digits_of t)) ∙ leading-left (digits_of t)

pub without-trailing-digits : (t : List ℕ) → digits_of (upto_of t (length (digits_of t) - trailing_zeros (digits_of t))) ≡ drop_back is_zero (digits_of t)
without-trailing-digits t = upto-digits t (length (digits_of t) - trailing_zeros (digits_of t)) ∙ trailing-left (digits_of t)

-- ---- the digit at an end and the view without it make up the digits
pub first-whole : (t : List ℕ) {b : ℕ} → first_of (digits_of t) ≡ Some b → b ∷ digits_of (from_of t 1) ≡ digits_of t
first-whole t {b} e = rw (from-digits t 1) (at_front (digits_of t) e)

pub last-whole : (t : List ℕ) {b : ℕ} → last_of (digits_of t) ≡ Some b → digits_of (upto_of t (length (digits_of t) - 1)) ++ (b ∷ []) ≡ digits_of t
last-whole t {b} e = rw (upto-digits t (length (digits_of t) - 1)) (at_back (digits_of t) e)
