-- What is proved of the text of a number, with the readers' meaning.
--   length          text-length: at most 67 bytes
--   round trip      write_read: written and then read as a plain text in radix 10, a raw is itself, in every manner, with the flag clear
--   by the promise  done-text, written-reads: the same of what a writer leaves in the buffer, from its promise alone
--   one raw         same_text: raws with the same F that are written the same are the same
--   one text        only (Form): a text of the form that writes a number is the text of that number
--   read, write     read-write: a text of the form whose number the format holds is read as its raw, which is written as that text
-- Assumes nothing.
use Rattle.std.proofs.Math.Path.{◌≡◌, refl, ap, ap₂}
use Rattle.std.proofs.Common.{sym, ◌∙◌, append-nil, zero-add, mul-pos, pos_of_ne-zero, div-lt_iff_lt-mul, arith, lit<, lit≤, pow_pos, pow-add, drop_of_length-le, take_all, lt-ltb, ltb-true, ltb-false, leb-true, ne_eqb, eqb-true}
use Rattle.std.specs.Prelude.{Ok, Bool, cond, List, [], ◌∷◌, ◌++◌, map, ℕ, zero, suc, ◌+◌, ◌-◌, ◌*◌, ◌/◌, ◌%◌, ◌^◌, ◌≤◌, ◌<◌, leb, ltb, ℤ, pos, negsuc, drop}
use Rattle.std.proofs.Math.Bool.{true, false}
use Rattle.std.proofs.lemmas.Bool.{false≢true}
use Rattle.std.proofs.Math.Nat.{one-le-pow, pow-le-pow_left, div-eq_of_lt}
use Rattle.std.proofs.Math.Dec.{eqb}
use Rattle.std.proofs.Math.ListN.{length, take, length-append}
use Rattle.std.proofs.lemmas.List.{length-map}
use Rattle.std.proofs.Math.Seq.{take-append_seam}
use Rattle.laws.specs.Nearest.{nearest_even, nearest-exact}
use Rattle.format.specs.declared.Manner.{Manner}
use Rattle.format.specs.declared.Answer.{Answer}
use Rattle.format.specs.Meaning.{Sign, Kind, Answered, unsigned_kind, done, refused, fault_of, settle, with_sign, answered, guarded}
use Rattle.format.specs.Theorems.{InRange, limit, in-fits}
use Rattle.format.proofs.Theorems.{settle-fits}
use Rattle.format.specs.Fault.{fault-free, width-bounds}
use Rattle.format.proofs.Limits.{fits-place}
use Rattle.format.proofs.Far.{limit-word}
use Rattle.digits.specs.Meaning.{digits_of}
use Rattle.grammar.specs.Meaning.{digit_of, Written, Reading, number, unread, plain_reading, num, den, raw_of, is_radix, read_of, blank}
use Rattle.grammar.specs.Automaton.{is_digit, NumberPart, whole, fraction, Seen, nothing, sign, digit, at, Error}
use Rattle.grammar.specs.Automaton.{on_sign, on_point, step, scan, ended, finish, plain_scan, reading_of}
use Rattle.grammar.specs.Agrees.{plain-scanned}
use Rattle.grammar.specs.Naturals.{nat_of}
use Rattle.grammar.specs.Class.{digit-ten}
use Rattle.grammar.specs.Accepted.{scan-append}
use Rattle.grammar.specs.Run.{digit_values, values-digit, run_more, run_len, part_of, with_digits, seen_after, scan-run}
use Rattle.grammar.specs.Theorems.{Taken, read_as}
use Rattle.decimal.specs.Meaning.{byte_of, whole_digits, fraction_by, fraction_digits, sign_text, whole_text}
use Rattle.decimal.specs.Meaning.{fraction_text, text_of, raw_text, put, buffer_after, write_of, left_of}
use Rattle.decimal.specs.Promise.{Write}
use Rattle.decimal.specs.Digits.{whole-last, whole_length, whole-text-length}
use Rattle.decimal.specs.Form.{Digits, none, more, Leads, lone, first, Form, Writes, pointed, form_text, text-form, digits-write, form_of, only}

-- ---- "At most 67 bytes"
fraction-length : (m k n : ℕ) → length (fraction_by m k n) ≤ k
unfolding fraction_by
fraction-length m zero n = omega arith
fraction-length m (suc k) n = go (eqb n 0) (fraction-length m k (n * 10 % m))
  where
    go : (t : Bool) → length (fraction_by m k (n * 10 % m)) ≤ k → length (cond t [] (n * 10 / m ∷ fraction_by m k (n * 10 % m))) ≤ suc k
    go true h = omega arith
    go false h = omega arith

fraction-text-length : (f n : ℕ) → length (fraction_text f n) ≤ suc f
unfolding fraction_text fraction_digits
fraction-text-length f n = go (eqb n 0) (fraction-length (2 ^ f) f n)
  where
    go : (t : Bool) → length (fraction_by (2 ^ f) f n) ≤ f → length (cond t [] (46 ∷ map byte_of (fraction_by (2 ^ f) f n))) ≤ suc f
    go true h = omega arith
    go false h = omega (arith, h, length-map (fraction_by (2 ^ f) f n) byte_of)

minus-length : (neg : Bool) → length (sign_text neg) ≤ 1
unfolding sign_text
minus-length true = omega arith
minus-length false = omega arith

-- what F leaves of a word has at most a digit a bit
whole-part-length : (m f : ℕ) → m < 2 ^ 64 → f < 64 → length (whole_text (m / 2 ^ f)) + f ≤ 64
whole-part-length m f h l =
    let k = 63 - f in
    let e : f + suc k ≡ 64 = omega arith in
    let word : 2 ^ f * 2 ^ suc k ≡ 2 ^ 64 = sym (pow-add 2 f (suc k)) ∙ ap (λ (n : ℕ). 2 ^ n) e in
    let low : m / 2 ^ f < 2 ^ suc k = (div-lt_iff_lt-mul {k = 2 ^ f} {x = m} {y = 2 ^ suc k} (pow_pos f)).1 (omega (arith, word)) in
    let bits = pow-le-pow_left {n = 2} {m = 10} (lit≤ tt) (suc k) in
    omega (arith, whole-text-length (m / 2 ^ f), whole_length k (m / 2 ^ f) (omega arith))

pub text-length : (neg : Bool) (m f : ℕ) → m < 2 ^ 64 → f ≤ 64 → length (text_of neg m f) ≤ 67
unfolding text_of
text-length neg m f h l = pick (ltb f 64) refl
  where
    parts : length (sign_text neg ++ (whole_text (m / 2 ^ f) ++ fraction_text f (m % 2 ^ f)))
        ≡ length (sign_text neg) + (length (whole_text (m / 2 ^ f)) + length (fraction_text f (m % 2 ^ f)))
    parts =
        length-append (sign_text neg) (whole_text (m / 2 ^ f) ++ fraction_text f (m % 2 ^ f))
        ∙ ap (λ (n : ℕ). length (sign_text neg) + n) (length-append (whole_text (m / 2 ^ f)) (fraction_text f (m % 2 ^ f)))

    most : length (whole_text (m / 2 ^ f)) + f ≤ 65 → length (sign_text neg ++ (whole_text (m / 2 ^ f) ++ fraction_text f (m % 2 ^ f))) ≤ 67
    most s = omega (arith, s, parts, minus-length neg, fraction-text-length f (m % 2 ^ f))

    pick : (t : Bool) → ltb f 64 ≡ t → length (sign_text neg ++ (whole_text (m / 2 ^ f) ++ fraction_text f (m % 2 ^ f))) ≤ 67
    pick true e = most (omega (arith, whole-part-length m f h (ltb-true f 64 e)))
    pick false e =
        let full : f ≡ 64 = omega (arith, ltb-false f 64 e) in
        let nothing-whole : m / 2 ^ f ≡ 0 = ap (λ (k : ℕ). m / 2 ^ k) full ∙ div-eq_of_lt h in
        let one : length (whole_text (m / 2 ^ f)) ≡ 1 = whole-text-length (m / 2 ^ f) ∙ ap (λ (q : ℕ). length (whole_digits q)) nothing-whole
        ∙ ap length (whole-last 0 (lit< tt)) in
        most (omega (arith, one))

-- ---- what the scan makes of a text of the form
ten : is_radix 10 ≡ true
unfolding is_radix
ten = refl

byte-value : {d : ℕ} → d < 10 → digit_of (byte_of d) ≡ d
byte-value {d} h = sym (digit-ten (byte_of d) (omega arith) (omega arith)) ∙ omega arith

byte-digit : {d : ℕ} → d < 10 → is_digit 10 (byte_of d) ≡ true
byte-digit {d} h = lt-ltb (digit_of (byte_of d)) 10 (omega (arith, byte-value h))

run-more : {ds : List ℕ} → Digits ds → run_more false 10 (map byte_of ds) ≡ length ds
unfolding run_more
run-more none = refl
run-more (more h r) = rw (byte-digit h, run-more r)

run-all : {d : ℕ} {ds : List ℕ} → Digits (d ∷ ds) → run_len false 10 (map byte_of (d ∷ ds)) ≡ suc (length ds)
unfolding run_len
run-all (more h r) = rw (byte-digit h, run-more r)

values : {ds : List ℕ} → Digits ds → digit_values (map byte_of ds) ≡ ds
unfolding digit_values digits_of
values none = refl
values (more {d} {ds} h r) =
    values-digit (byte_of d) (map byte_of ds) (ne_eqb (byte_of d) 95 (omega arith)) ∙ ap₂ (λ (v : ℕ) (vs : List ℕ). v ∷ vs) (byte-value h) (values r)

scan-digits : (p : Bool) {d : ℕ} {ds : List ℕ} → Digits (d ∷ ds) → (q : Seen) (x : Written)
    → scan Error 10 (map byte_of (d ∷ ds)) (at (part_of p) q x) ≡ at (part_of p) digit (with_digits p x (d ∷ ds))
unfolding scan seen_after
scan-digits p {d} {ds} h q x =
    let t = map byte_of (d ∷ ds) in
    let n = suc (length ds) in
    let long : length t ≤ n = omega (arith, length-map (d ∷ ds) byte_of) in
    scan-run false 10 ten p t q x
    ∙ ap (λ (k : ℕ). scan Error 10 (drop k t) (at (part_of p) (seen_after k q) (with_digits p x (digit_values (take k t))))) (run-all h)
    ∙ ap₂ (λ (r s : List ℕ). scan Error 10 r (at (part_of p) digit (with_digits p x (digit_values s)))) (drop_of_length-le t long) (take_all n t long)
    ∙ ap (λ (s : List ℕ). at (part_of p) digit (with_digits p x s)) (values h)

-- what is read: the sign, all digits, and how many stand after the point
abbrev pub written : Bool → List ℕ → List ℕ → Written
written neg ws fs = record { neg = neg; digits = ws ++ fs; after = length fs; base = 1; down = false; exp = 0 }

abbrev pub part_for : List ℕ → NumberPart
part_for [] = whole
part_for (d ∷ ds) = fraction

after-sign : (neg : Bool) (t : List ℕ) → (q : Seen) × (scan Error 10 (sign_text neg ++ t) (at whole nothing (blank false)) ≡ scan Error 10 t
    (at whole q (blank neg)))
unfolding sign_text scan step on_sign
after-sign true t = (sign, refl)
after-sign false t = (nothing, refl)

after-point : (neg : Bool) (ws : List ℕ) {fs : List ℕ} → Digits fs
    → scan Error 10 (pointed fs) (at whole digit (with_digits false (blank neg) ws)) ≡ at (part_for fs) digit (written neg ws fs)
unfolding pointed scan step on_point
after-point neg ws none =
    ap (λ (ds : List ℕ). at whole digit (record { neg = neg; digits = ds; after = 0; base = 1; down = false; exp = 0 })) (sym (append-nil ws))
after-point neg ws (more {d} {ds} h r) =
    scan-digits true (more h r) nothing (with_digits false (blank neg) ws)
    ∙ ap (λ (n : ℕ). at fraction digit (record { neg = neg; digits = ws ++ (d ∷ ds); after = n; base = 1; down = false; exp = 0 })) (zero-add (length (d ∷ ds)))

some-whole : {ws : List ℕ} → Leads ws → 0 < length ws
some-whole lone = lit< tt
some-whole (first h) = omega arith

whole-scan : {ws : List ℕ} → Leads ws → Digits ws → (q : Seen) (x : Written)
    → scan Error 10 (map byte_of ws) (at whole q x) ≡ at whole digit (with_digits false x ws)
whole-scan lone h q x = scan-digits false h q x
whole-scan (first l) h q x = scan-digits false h q x

finished : (fs : List ℕ) (x : Written) → 0 < length x.digits → finish (at (part_for fs) digit x) ≡ at (part_for fs) digit x
unfolding finish ended
finished [] x h = rw (ne_eqb (length x.digits) 0 (λ z. omega arith))
finished (d ∷ fs) x h = rw (ne_eqb (length x.digits) 0 (λ z. omega arith))

module _ {neg : Bool} {ws fs : List ℕ} (form : Form neg ws fs) where
  form-scan : plain_scan 10 (form_text neg ws fs) ≡ at (part_for fs) digit (written neg ws fs)
  unfolding plain_scan form_text
  form-scan =
      let s = after-sign neg (map byte_of ws ++ pointed fs) in
      ap finish
      (s.1
      ∙ scan-append Error 10 (map byte_of ws) (pointed fs) (at whole s.0 (blank neg))
      ∙ ap (scan Error 10 (pointed fs)) (whole-scan form.leads form.whole-digits s.0 (blank neg))
      ∙ after-point neg ws form.fraction-digits)
      ∙ finished fs (written neg ws fs) (omega (arith, length-append ws fs, some-whole form.leads))

  pub form-reads : plain_reading 10 (form_text neg ws fs) ≡ number (written neg ws fs)
  unfolding reading_of
  form-reads = plain-scanned 10 (form_text neg ws fs) ∙ ap reading_of form-scan

  -- a number that the format holds is read without rounding
  module _ (m f : ℕ) (w : Writes ws fs m f) where
    raw-exact : raw_of 10 f (written neg ws fs) ≡ m
    unfolding raw_of num den
    raw-exact =
        let d = 10 ^ length fs * 1 in
        let e : nat_of 10 (ws ++ fs) * 1 * 2 ^ f ≡ m * d = omega (arith, w) in
        ap (λ (v : ℕ). nearest_even v d) e ∙ nearest-exact m d (omega (arith, one-le-pow (length fs) 10 (lit< tt)))

    not-zero : neg ≡ true → 0 < m
    not-zero e =
        let some : 0 < nat_of 10 (ws ++ fs) * 2 ^ f = mul-pos (form.negative e) (pow_pos f) in
        pos_of_ne-zero (λ z. omega (arith, w, some, ap (λ (v : ℕ). v * 10 ^ length fs) z))

-- ---- a raw's magnitude is a word, so its text is short
magnitude-word : (s : Sign) (w : ℕ) (neg : Bool) (m : ℕ) → w ≤ 64 → InRange s w (with_sign neg m) → m < 2 ^ 64
magnitude-word s w neg m h r =
    omega (arith, leb-true m (limit s w neg) (sym (fits-place s w neg m) ∙ in-fits r), limit-word s w neg h)

-- the text of a raw is that of its sign and its magnitude
sign-text : (neg : Bool) (m f : ℕ) → (neg ≡ true → 0 < m) → raw_text (with_sign neg m) f ≡ text_of neg m f
unfolding raw_text with_sign
sign-text false m f h = refl
sign-text true zero f h = absurd (omega (arith, h refl))
sign-text true (suc m) f h = refl

-- ---- Writing, reading. Every raw of the format, written and then read as a plain text in radix 10 in any manner, is itself, with the flag clear.
module _ (k : Manner) (s : Sign) (w f : ℕ) (format : fault_of w f ≡ 0) where
  read-form : (neg : Bool) (ws fs : List ℕ) (m : ℕ) → Form neg ws fs → Writes ws fs m f → InRange s w (with_sign neg m)
      → read_of k s w f 10 (form_text neg ws fs) ≡ done (with_sign neg m) false
  read-form neg ws fs m form writes range =
      let free = fault-free w f format in
      let bounds = width-bounds w free.0 in
      let some : 0 < w = omega (arith, bounds) in
      let small = magnitude-word s w neg m bounds.1 range in
      let size : length (form_text neg ws fs) ≤ 67 = rw (only neg ws fs m f form writes) (text-length neg m f small (omega (arith, bounds, free.1))) in
      let taken : Taken w f 10 (form_text neg ws fs) (written neg ws fs) =
      record { format = format; legal = ten; short = omega (arith, size); scanned = form-reads form } in
      read_as taken k s ∙ ap (λ (v : ℕ). settle k s w (with_sign neg v)) (raw-exact form m f writes) ∙ settle-fits s w (with_sign neg m) k some range

  read-text : (neg : Bool) (m : ℕ) → (neg ≡ true → 0 < m) → InRange s w (with_sign neg m) → read_of k s w f 10 (text_of neg m f) ≡ done (with_sign neg m) false
  read-text neg m h range =
      ap (read_of k s w f 10) (text-form neg m f)
      ∙ read-form neg (whole_digits (m / 2 ^ f)) (fraction_digits f (m % 2 ^ f)) m (form_of neg m f h) (digits-write m f) range

  pub write_read : (raw : ℤ) → InRange s w raw → read_of k s w f 10 (raw_text raw f) ≡ done raw false
  unfolding raw_text with_sign
  write_read (pos n) range = read-text false n (λ e. absurd (false≢true e)) range
  write_read (negsuc n) range = read-text true (suc n) (λ e. omega arith) range

  -- Reading, writing. A text of the form whose number the format holds is read as its raw, and that is written as the same text.
  pub read-write : (neg : Bool) (ws fs : List ℕ) (m : ℕ) → Form neg ws fs → Writes ws fs m f → InRange s w (with_sign neg m)
      → (read_of k s w f 10 (form_text neg ws fs) ≡ done (with_sign neg m) false) × (raw_text (with_sign neg m) f ≡ form_text neg ws fs)
  read-write neg ws fs m form writes range =
      (read-form neg ws fs m form writes range, sign-text neg m f (not-zero form m f writes) ∙ sym (only neg ws fs m f form writes))

-- ---- One raw: what is written the same is the same, for every F and every raw.
abbrev number_of : ℕ → Reading → ℤ
number_of f (number x) = with_sign x.neg (raw_of 10 f x)
number_of f (unread n) = pos 0

text-number : (neg : Bool) (m f : ℕ) → (neg ≡ true → 0 < m) → number_of f (plain_reading 10 (text_of neg m f)) ≡ with_sign neg m
text-number neg m f h =
    let form = form_of neg m f h in
    ap (λ (t : List ℕ). number_of f (plain_reading 10 t)) (text-form neg m f) ∙ ap (number_of f) (form-reads form)
    ∙ ap (with_sign neg) (raw-exact form m f (digits-write m f))

raw-number : (raw : ℤ) (f : ℕ) → number_of f (plain_reading 10 (raw_text raw f)) ≡ raw
unfolding raw_text with_sign
raw-number (pos n) f = text-number false n f (λ e. absurd (false≢true e))
raw-number (negsuc n) f = text-number true (suc n) f (λ e. omega arith)

pub same_text : (f : ℕ) (a b : ℤ) → raw_text a f ≡ raw_text b f → a ≡ b
same_text f a b e = sym (raw-number a f) ∙ ap (λ (t : List ℕ). number_of f (plain_reading 10 t)) e ∙ raw-number b f

-- ---- From the promise of a writer alone: what it is done with is the text of the raw, and reading it gives the raw back.
module _ {A : Type 0} (c : Kind A) (raw : A) (w f : ℕ) (out left : List ℕ) (n : ℕ) (flag : Bool) where
  pub done-text : Write c raw w f out (Ok (record { raw = n; flag = flag })) left → (fault_of w f ≡ 0) × (take n left ≡ raw_text (c.number_of raw) f)
  unfolding write_of left_of put buffer_after guarded answered
  done-text p = go (eqb (fault_of w f) 0) refl (leb (length text) (length out)) p.0 p.1
    where
      text : List ℕ
      text = raw_text (c.number_of raw) f

      held : {a b : Answer ℕ} → ◌≡◌ {A = Answered ℕ} (Ok a) (Ok b) → a.raw ≡ b.raw
      held e = cc

      go : (a : Bool) → eqb (fault_of w f) 0 ≡ a → (b : Bool)
          → Ok (record { raw = n; flag = flag }) ≡ answered unsigned_kind (cond a (cond b (done (pos (length text)) false) (refused 5)) (refused (fault_of w f)))
          → left ≡ buffer_after text out (cond a (cond b (done (pos (length text)) false) (refused 5)) (refused (fault_of w f)))
          → (fault_of w f ≡ 0) × (take n left ≡ text)
      go true e true r l =
          let size : n ≡ length text = held r in
          (eqb-true (fault_of w f) 0 e, ap₂ take size l ∙ take-append_seam text (drop (length text) out))
      go true e false r l = let z : ◌≡◌ {A = ℕ} 0 1 = cc in absurd (omega arith)
      go false e b r l = let z : ◌≡◌ {A = ℕ} 0 1 = cc in absurd (omega arith)

  pub written-reads : (k : Manner) (s : Sign) → Write c raw w f out (Ok (record { raw = n; flag = flag })) left → InRange s w (c.number_of raw)
      → read_of k s w f 10 (take n left) ≡ done (c.number_of raw) false
  written-reads k s p range = let d = done-text p in ap (read_of k s w f 10) d.1 ∙ write_read k s w f d.0 (c.number_of raw) range
