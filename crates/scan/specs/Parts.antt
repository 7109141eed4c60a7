-- The whole part and the fraction: one law for both of what the scan makes of a part and of the byte in front of which its run ends.
-- Assumes nothing.
use Rattle.std.proofs.Math.Path.{◌≡◌, refl, ap, ap₂, subst}
use Rattle.std.proofs.Common.{sym, ◌∙◌, true≢false, zero-add, add-one, drop_of_length-le, length-drop, drop-cons, drop-drop, take-add, ne_eqb}
use Rattle.std.specs.Prelude.{Bool, cond, ◌&&◌, ◌||◌, ℕ, suc, ◌+◌, ◌-◌, ◌≤◌, ◌<◌, take, get_or}
use Rattle.std.proofs.Math.Bool.{true, false}
use mathlib.Core.List.{List, [], ◌∷◌, ◌++◌, append-nil}
use native.Mathlib.Omega.{arith}
use Rattle.std.proofs.Math.Dec.{eqb}
use Rattle.std.proofs.Math.ListN.{length, drop}
use Rattle.std.proofs.lemmas.List.{length-map}
use Rattle.digits.specs.Meaning.{digits_of}
use Rattle.grammar.specs.Meaning.{digit_of, is_sign, Written, plain_reading, is_radix, number, unread, blank}
use Rattle.grammar.specs.Automaton.{is_digit, Scan, at, whole, fraction, nothing, sign, finish, scan, Error, reading_of}
use Rattle.grammar.specs.Reading.{reading, opened, read-end, sign_first, read-unsigned, read-sign}
use Rattle.laws.specs.Lists.{part}
use Rattle.grammar.specs.Run.{digit_values, body_of, values-digit, values-under, both, sep_of, in_run, run_more, run_len, part_of, with_digits, seen_after, scan-run}
use Rattle.grammar.specs.Class.{class_of, digit-plain}
use Rattle.grammar.specs.Agrees.{plain-agrees}
use Rattle.grammar.specs.declared.byte.Class.{Class}
use Rattle.run.specs.Run.{run_at, len-fits}
use Rattle.run.specs.declared.Run.{Run}
use Rattle.scan.specs.After.{after_run, Stopped, read-after, read-point}
use Rattle.scan.specs.Found.{Found, run_digits, written_of, whole_of, unmarked_of, Counted, Ready, Finds, finds-by, finds-unmarked, no-sign-at, no-sign-past}
use Rattle.scan.specs.declared.Parsed.{Parsed}

-- ---- what stands in front of which a run ends
either : (a b : Bool) → (a || b) ≡ false → (a ≡ false) × (b ≡ false)
either true b e = absurd (true≢false e)
either false b e = (refl, e)

module _ (skip : Bool) (radix : ℕ) where
  more-stops : (t : List ℕ) (b : ℕ) (u : List ℕ) → drop (run_more skip radix t) t ≡ b ∷ u → in_run skip radix b ≡ false
  unfolding run_more
  more-stops [] b u e = let z : ◌≡◌ {A = ℕ} 0 1 = cc in absurd (omega arith)
  more-stops (c ∷ t) b u e = go (in_run skip radix c) refl e (λ f. more-stops t b u f)
    where
      go : (g : Bool) → in_run skip radix c ≡ g → drop (cond g (suc (run_more skip radix t)) 0) (c ∷ t) ≡ b ∷ u
          → (drop (run_more skip radix t) t ≡ b ∷ u → in_run skip radix b ≡ false) → in_run skip radix b ≡ false
      go true h e more = more e
      go false h e more = let z : c ≡ b = cc in ap (in_run skip radix) (sym z) ∙ h

  run-stops : (t : List ℕ) (b : ℕ) (u : List ℕ) → drop (run_len skip radix t) t ≡ b ∷ u → (is_digit radix b ≡ false) × Stopped skip (run_len skip radix t) b
  unfolding run_len
  run-stops [] b u e = let z : ◌≡◌ {A = ℕ} 0 1 = cc in absurd (omega arith)
  run-stops (c ∷ t) b u e = go (is_digit radix c) refl e
    where
      go : (g : Bool) → is_digit radix c ≡ g → drop (cond g (suc (run_more skip radix t)) 0) (c ∷ t) ≡ b ∷ u
          → (is_digit radix b ≡ false) × Stopped skip (cond g (suc (run_more skip radix t)) 0) b
      go true h e = either (is_digit radix b) (skip && eqb b 95) (more-stops t b u e)
      go false h e = let z : c ≡ b = cc in (ap (is_digit radix) (sym z) ∙ h, tt)

-- ---- a part: its run, then the byte in front of which it ended
module _ (t : List ℕ) (from radix : ℕ) (skip : Bool) (legal : is_radix radix ≡ true) (p : Bool) (x : Written) (n : ℕ)
    (count : n ≡ run_len skip radix (drop from t)) (y : Written) (same : with_digits p x (digit_values (take n (drop from t))) ≡ y) where
  part-read : reading (sep_of skip) radix (drop from t) (at (part_of p) (opened p) x)
      ≡ reading (sep_of skip) radix (drop (from + n) t) (at (part_of p) (seen_after n (opened p)) y)
  unfolding reading
  part-read =
      ap (λ (s : Scan). reading_of (finish s)) (scan-run skip radix legal p (drop from t) (opened p) x)
      ∙ ap (λ (k : ℕ). reading_of (finish
      (scan (sep_of skip) radix (drop k (drop from t)) (at (part_of p) (seen_after k (opened p)) (with_digits p x (digit_values (take k (drop from t))))))))
      (sym count)
      ∙ ap₂ (λ (l : List ℕ) (z : Written). reading_of (finish (scan (sep_of skip) radix l (at (part_of p) (seen_after n (opened p)) z)))) (drop-drop n from t) same

  -- the text ends with the run
  ends : length t ≤ from + n → reading (sep_of skip) radix (drop from t) (at (part_of p) (opened p) x) ≡ cond (eqb (length y.digits) 0) (unread 11) (number y)
  ends h =
      part-read ∙ ap (λ (l : List ℕ). reading (sep_of skip) radix l (at (part_of p) (seen_after n (opened p)) y)) (drop_of_length-le t h)
      ∙ read-end (sep_of skip) radix p (seen_after n (opened p)) y

  -- a byte stands behind the run
  here : from + n < length t → drop (from + n) t ≡ get_or t (from + n) 0 ∷ drop (from + n + 1) t
  here h = drop-cons t (from + n) 0 h ∙ ap (λ (k : ℕ). get_or t (from + n) 0 ∷ drop k t) (sym (add-one (from + n)))

  stopped : from + n < length t → (is_digit radix (get_or t (from + n) 0) ≡ false) × Stopped skip n (get_or t (from + n) 0)
  stopped h =
      let s = run-stops skip radix (drop from t) (get_or t (from + n) 0) (drop (from + n + 1) t)
      (ap (λ (k : ℕ). drop k (drop from t)) (sym count) ∙ drop-drop n from t ∙ here h) in
      (s.0, subst (λ (k : ℕ). Stopped skip k (get_or t (from + n) 0)) (sym count) s.1)

  goes_on : from + n < length t → (p ≡ false → get_or t (from + n) 0 ≡ 46 → ⊥)
      → reading (sep_of skip) radix (drop from t) (at (part_of p) (opened p) x)
      ≡ after_run (class_of radix (get_or t (from + n) 0)) skip radix (drop (from + n + 1) t) y
  goes_on h o =
      part-read ∙ ap (λ (l : List ℕ). reading (sep_of skip) radix l (at (part_of p) (seen_after n (opened p)) y)) (here h)
      ∙ read-after skip radix (get_or t (from + n) 0) (drop (from + n + 1) t) y p n (stopped h).0 (stopped h).1 (λ e. ne_eqb (get_or t (from + n) 0) 46 (o e))

-- ---- the same of the code's numbers: `end` where the run ends, P the places so far
module _ (t : List ℕ) (from radix : ℕ) (skip : Bool) (legal : is_radix radix ≡ true) (p : Bool) (x : Written) (P : Parsed) (ready : Ready t P) where
  pub part_end :
      {end : ℕ} {r : Found} → end ≡ from + run_len skip radix (drop from t)
      → with_digits p x (digit_values (take (run_len skip radix (drop from t)) (drop from t))) ≡ written_of t P →
      length t ≤ end → r ≡ unmarked_of P → Finds t r (reading (sep_of skip) radix (drop from t) (at (part_of p) (opened p) x))
  part_end e same h q = finds-unmarked t P ready q (ends t from radix skip legal p x (run_len skip radix (drop from t)) refl (written_of t P) same (omega arith))

  pub part-after :
      {end : ℕ} {c : Class} {r : Found} → end ≡ from + run_len skip radix (drop from t)
      → with_digits p x (digit_values (take (run_len skip radix (drop from t)) (drop from t))) ≡ written_of t P →
      end < length t → (p ≡ false → get_or t end 0 ≡ 46 → ⊥) → c ≡ class_of radix (get_or t end 0) →
      Finds t r (after_run c skip radix (drop (end + 1) t) (written_of t P)) → Finds t r (reading (sep_of skip) radix (drop from t) (at (part_of p) (opened p) x))
  part-after {end} {c} {r} e same h o q f =
      finds-by t
      (ap (λ (k : Class). after_run k skip radix (drop (end + 1) t) (written_of t P)) q
      ∙ ap (λ (k : ℕ). after_run (class_of radix (get_or t k 0)) skip radix (drop (k + 1) t) (written_of t P)) e
      ∙ sym (goes_on t from radix skip legal p x (run_len skip radix (drop from t)) refl (written_of t P) same (omega arith)
      (λ z b. o z (ap (λ (k : ℕ). get_or t k 0) e ∙ b))))
      f

-- the point behind the whole part
pub part-point :
    (t : List ℕ) (from radix : ℕ) (skip : Bool) (legal : is_radix radix ≡ true) (x y : Written) {end : ℕ} {r : Found}
    → end ≡ from + run_len skip radix (drop from t) →
    with_digits false x (digit_values (take (run_len skip radix (drop from t)) (drop from t))) ≡ y → end < length t → get_or t end 0 ≡ 46 →
    Finds t r (reading (sep_of skip) radix (drop (end + 1) t) (at fraction nothing y)) → Finds t r (reading (sep_of skip) radix (drop from t) (at whole sign x))
part-point t from radix skip legal x y {end} {r} e same h b f =
    finds-by t
    (ap (λ (k : ℕ). reading (sep_of skip) radix (drop k t) (at fraction nothing y)) (add-one end)
    ∙ sym (read-point skip radix (get_or t end 0) (drop (suc end) t) y (seen_after n sign) b)
    ∙ ap (λ (l : List ℕ). reading (sep_of skip) radix l (at whole (seen_after n sign) y)) (sym (drop-cons t end 0 h))
    ∙ ap (λ (k : ℕ). reading (sep_of skip) radix (drop k t) (at whole (seen_after n sign) y)) e
    ∙ sym (part-read t from radix skip legal false x n refl y same))
    f
  where
    n : ℕ
    n = run_len skip radix (drop from t)

-- ---- the digits of a run are those of its stretch: no point stands in it
no_bytes : body_of [] ≡ digit_values []
unfolding body_of digit_values digits_of
no_bytes = refl

under_same : (b : ℕ) (t : List ℕ) → eqb b 95 ≡ true → body_of t ≡ digit_values t → body_of (b ∷ t) ≡ digit_values (b ∷ t)
unfolding body_of
under_same b t f q = rw f (q ∙ sym (values-under b t f))

body-append : (a b : List ℕ) → body_of (a ++ b) ≡ body_of a ++ body_of b
unfolding body_of
body-append [] b = refl
body-append (c ∷ a) b = go (eqb c 95 || eqb c 46) (body-append a b)
  where
    go : (g : Bool) → body_of (a ++ b) ≡ body_of a ++ body_of b
        → cond g (body_of (a ++ b)) (digit_of c ∷ body_of (a ++ b)) ≡ cond g (body_of a) (digit_of c ∷ body_of a) ++ body_of b
    go true e = e
    go false e = ap (λ (l : List ℕ). digit_of c ∷ l) e

body-point : (t : List ℕ) → body_of (46 ∷ t) ≡ body_of t
unfolding body_of
body-point t = refl

-- a stretch around a byte
part-around : (t : List ℕ) (a m c : ℕ) → a ≤ m → m < c → c ≤ length t → part t a c ≡ part t a m ++ (get_or t m 0 ∷ part t (m + 1) c)
part-around t a m c h k l =
    let n = c - (m + 1) in
    let size : c - a ≡ m - a + suc n = omega arith in
    let place : a + (m - a) ≡ m = omega arith in
    ap (λ (j : ℕ). take j (drop a t)) size
    ∙ take-add (m - a) (suc n) (drop a t)
    ∙ ap (λ (r : List ℕ). part t a m ++ take (suc n) r) (drop-drop (m - a) a t ∙ ap (λ (j : ℕ). drop j t) place ∙ drop-cons t m 0 (omega arith))
    ∙ ap (λ (j : ℕ). part t a m ++ (get_or t m 0 ∷ take n (drop j t))) (sym (add-one m))

values_same : (b : ℕ) (t u : List ℕ) → eqb b 46 ≡ false → eqb b 95 ≡ false → body_of t ≡ digit_values u → body_of (b ∷ t) ≡ digit_values (b ∷ u)
unfolding body_of
values_same b t u e f q = rw (e, f) (ap (λ (l : List ℕ). digit_of b ∷ l) q ∙ sym (values-digit b u f))

module _ (skip : Bool) (radix : ℕ) (legal : is_radix radix ≡ true) where
  body_more : (t : List ℕ) → body_of (take (run_more skip radix t) t) ≡ digit_values (take (run_more skip radix t) t)
  unfolding run_more
  body_more [] = no_bytes
  body_more (b ∷ t) = go (is_digit radix b) (skip && eqb b 95) refl refl (body_more t)
    where
      go : (d v : Bool) → is_digit radix b ≡ d → (skip && eqb b 95) ≡ v → body_of (take (run_more skip radix t) t) ≡ digit_values (take (run_more skip radix t) t) →
          body_of (take (cond (d || v) (suc (run_more skip radix t)) 0) (b ∷ t)) ≡ digit_values (take (cond (d || v) (suc (run_more skip radix t)) 0) (b ∷ t))
      go true v e f more =
          let n = digit-plain radix b legal e in
          values_same b (take (run_more skip radix t) t) (take (run_more skip radix t) t) n.no-point n.no-under more
      go false true e f more = under_same b (take (run_more skip radix t) t) (both skip (eqb b 95) f).1 more
      go false false e f more = no_bytes

  pub body_run : (t : List ℕ) → body_of (take (run_len skip radix t) t) ≡ digit_values (take (run_len skip radix t) t)
  unfolding run_len
  body_run [] = no_bytes
  body_run (b ∷ t) = go (is_digit radix b) refl
    where
      go : (d : Bool) → is_digit radix b ≡ d
          → body_of (take (cond d (suc (run_more skip radix t)) 0) (b ∷ t)) ≡ digit_values (take (cond d (suc (run_more skip radix t)) 0) (b ∷ t))
      go true e =
          let n = digit-plain radix b legal e in
          values_same b (take (run_more skip radix t) t) (take (run_more skip radix t) t) n.no-point n.no-under (body_more t)
      go false e = no_bytes

-- ---- the places that the code keeps
abbrev pub whole_parsed : Bool → Run → Parsed
whole_parsed neg r = record { neg = neg; whole = r; frac = record { from = r.to; to = r.to; digits = 0 }; base = 1; down = false; exp = 0 }

abbrev pub before_mark : Bool → Run → Run → Parsed
before_mark neg w r = record { neg = neg; whole = w; frac = r; base = 1; down = false; exp = 0 }

-- what the fraction needs of the whole part: the point stands behind it
pub record Behind (t : List ℕ) (w : Run) (from : ℕ) : Type 0 where
  pub counted : Counted t w
  pub start : w.from ≤ w.to
  pub next : from ≡ w.to + 1
  pub point : get_or t w.to 0 ≡ 46
  pub inside : w.to < length t
  pub body : body_of (part t w.from w.to) ≡ run_digits t w

no_span : (t : List ℕ) (k : ℕ) → run_digits t (record { from = k; to = k; digits = 0 }) ≡ []
unfolding digit_values digits_of
no_span t k = let z : k - k ≡ 0 = omega arith in ap (λ (n : ℕ). digit_values (take n (drop k t))) z

module _ (t : List ℕ) (from radix : ℕ) (skip : Bool) {run : Run} (e : run ≡ run_at t from radix skip) where
  pub run-to : run.to ≡ from + run_len skip radix (drop from t)
  unfolding run_at
  run-to = ap (λ (r : Run). r.to) e

  pub run-counted : Counted t run
  unfolding run_at digit_values
  run-counted = subst (λ (r : Run). Counted t r) (sym e) (sym (length-map (digits_of (part t from (from + run_len skip radix (drop from t)))) digit_of))

  run-span : run_digits t run ≡ digit_values (take (run_len skip radix (drop from t)) (drop from t))
  unfolding run_at
  run-span =
      let n = run_len skip radix (drop from t) in
      let z : from + n - from ≡ n = omega arith in
      ap (run_digits t) e ∙ ap (λ (k : ℕ). digit_values (take k (drop from t))) z

  pub run-body : is_radix radix ≡ true → body_of (part t run.from run.to) ≡ run_digits t run
  unfolding run_at
  run-body legal =
      let n = run_len skip radix (drop from t) in
      let z : from + n - from ≡ n = omega arith in
      subst (λ (r : Run). body_of (part t r.from r.to) ≡ run_digits t r) (sym e)
      (ap (λ (k : ℕ). body_of (take k (drop from t))) z ∙ body_run skip radix legal (drop from t) ∙ ap (λ (k : ℕ). digit_values (take k (drop from t))) (sym z))

  pub run-start : run.from ≤ run.to
  unfolding run_at
  run-start = subst (λ (r : Run). r.from ≤ r.to) (sym e) (omega arith)

  pub run-end-fits : from ≤ length t → run.to ≤ length t
  run-end-fits h = omega (arith, run-to, len-fits skip radix (drop from t), length-drop from t)

  pub whole_ready : from ≤ length t → is_radix radix ≡ true → (neg : Bool) → Ready t (whole_parsed neg run)
  whole_ready h legal neg =
      record {
        whole-counted = run-counted;
        frac-counted = sym (ap length (no_span t run.to));
        small = omega arith;
        stretch =
            record {
              start = run-start;
              end = run-end-fits h;
              both = run-body legal ∙ sym (append-nil (run_digits t run))
                  ∙ ap (λ (l : List ℕ). run_digits t run ++ l) (sym (no_span t run.to));
            };
      }

  pub whole_is : (neg : Bool) → with_digits false (blank neg) (digit_values (take (run_len skip radix (drop from t)) (drop from t))) ≡ whole_of t neg run
  whole_is neg = ap (λ (ds : List ℕ). record { neg = neg; digits = ds; after = 0; base = 1; down = false; exp = 0 }) (sym run-span)

  pub whole_same : (neg : Bool) → with_digits false (blank neg) (digit_values (take (run_len skip radix (drop from t)) (drop from t)))
      ≡ written_of t (whole_parsed neg run)
  unfolding written_of
  whole_same neg =
      whole_is neg
      ∙ ap (λ (ds : List ℕ). record { neg = neg; digits = ds; after = 0; base = 1; down = false; exp = 0 }) (sym (append-nil (run_digits t run)))
      ∙ ap (λ (ds : List ℕ). record { neg = neg; digits = run_digits t run ++ ds; after = length ds; base = 1; down = false; exp = 0 })
      (sym (no_span t run.to))

  run-from : run.from ≡ from
  unfolding run_at
  run-from = ap (λ (r : Run). r.from) e

  pub frac-ready : from ≤ length t → is_radix radix ≡ true → (neg : Bool) (w : Run) → Behind t w from → Ready t (before_mark neg w run)
  frac-ready h legal neg w b =
      record {
        whole-counted = b.counted;
        frac-counted = run-counted;
        small = omega arith;
        stretch = record {
          start = omega (arith, b.start, b.next, run-from, run-start);
          end = run-end-fits h;
          both =
              ap body_of (part-around t w.from w.to run.to b.start (omega (arith, b.next, run-from, run-start)) (run-end-fits h))
              ∙ body-append (part t w.from w.to) (get_or t w.to 0 ∷ part t (w.to + 1) run.to)
              ∙ ap₂ (λ (x y : List ℕ). x ++ y) b.body
              (ap (λ (c : ℕ). body_of (c ∷ part t (w.to + 1) run.to)) b.point
              ∙ body-point (part t (w.to + 1) run.to)
              ∙ ap (λ (k : ℕ). body_of (part t k run.to)) (sym b.next ∙ sym run-from)
              ∙ run-body legal);
        };
      }

  pub frac-same : (neg : Bool) (w : Run)
      → with_digits true (whole_of t neg w) (digit_values (take (run_len skip radix (drop from t)) (drop from t))) ≡ written_of t (before_mark neg w run)
  unfolding written_of
  frac-same neg w =
      ap (λ (ds : List ℕ). with_digits true (whole_of t neg w) ds) (sym run-span)
      ∙ ap (λ (k : ℕ). record { neg = neg; digits = run_digits t w ++ run_digits t run; after = k; base = 1; down = false; exp = 0 })
      (zero-add (length (run_digits t run)))

-- ---- the plain text: its sign, or none
module _ (t : List ℕ) (radix : ℕ) where
  plain-is : reading Error radix t (at whole nothing (blank false)) ≡ plain_reading radix t
  plain-is = sym (plain-agrees radix t)

  pub plain-none : {r : Found} → sign_first t ≡ false → Finds t r (reading (sep_of false) radix (drop 0 t) (at whole sign (blank false)))
      → Finds t r (plain_reading radix t)
  plain-none h f = finds-by t (sym (read-unsigned Error radix t (blank false) h) ∙ plain-is) f

  pub plain-signed :
      {r : Found} (minus : Bool) → 0 < length t → is_sign (get_or t 0 0) ≡ true → eqb (get_or t 0 0) 45 ≡ minus →
      Finds t r (reading (sep_of false) radix (drop 1 t) (at whole sign (blank minus))) → Finds t r (plain_reading radix t)
  plain-signed minus h s m f =
      finds-by t
      (ap (λ (g : Bool). reading Error radix (drop 1 t) (at whole sign (blank g))) (sym m)
      ∙ sym (read-sign Error radix (get_or t 0 0) (drop 1 t) s)
      ∙ ap (λ (l : List ℕ). reading Error radix l (at whole nothing (blank false))) (sym (drop-cons t 0 0 h)) ∙ plain-is)
      f

  pub plain-empty : {r : Found} → length t < 1 → Finds t r (reading (sep_of false) radix (drop 0 t) (at whole sign (blank false)))
      → Finds t r (plain_reading radix t)
  plain-empty h f = plain-none (no-sign-past t 0 (omega arith)) f

  pub plain-plus : {r : Found} → 1 ≤ length t → get_or t 0 0 ≡ 43 → Finds t r (reading (sep_of false) radix (drop 1 t) (at whole sign (blank false)))
      → Finds t r (plain_reading radix t)
  plain-plus h b f = plain-signed false (omega arith) (rw b) (rw b) f

  pub plain-minus : {r : Found} → 1 ≤ length t → get_or t 0 0 ≡ 45 → Finds t r (reading (sep_of false) radix (drop 1 t) (at whole sign (blank true)))
      → Finds t r (plain_reading radix t)
  plain-minus h b f = plain-signed true (omega arith) (rw b) (rw b) f

  pub plain-digits :
      {r : Found} → 1 ≤ length t → (get_or t 0 0 ≡ 43 → ⊥) → (get_or t 0 0 ≡ 45 → ⊥) →
      Finds t r (reading (sep_of false) radix (drop 0 t) (at whole sign (blank false))) → Finds t r (plain_reading radix t)
  plain-digits h a b f = plain-none (no-sign-at t 0 (omega arith) a b) f
