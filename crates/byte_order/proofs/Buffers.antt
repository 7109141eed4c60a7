-- The answers of the byte functions: the low bits that a wrapped answer holds, a raw behind the refusals, and what a lent buffer holds
-- after. Assumes nothing.
use Rattle.std.specs.Prelude.{◌≡◌, refl, Bool, true, false, cond, ℕ, ◌/◌, ◌≤◌, eqb, leb, ℤ, pos, List, ◌++◌, length, drop, Ok}
use Rattle.std.specs.Result.{IsErrAnd}
use Rattle.std.proofs.Common.{ap, ap₂, ◌∙◌, arith}
use Rattle.std.proofs.lemmas.List.{length-reverse}
use borrow.Author.Tests.{eq-eqb, ne_eqb, leb-true, eqb-true}
use Rattle.format.specs.declared.Answer.{Answer}
use Rattle.format.specs.declared.refusal.Refusal.{Refusal}
use Rattle.format.specs.Meaning.{Kind, unsigned_kind, Answered, answered, fault_of, unless, wrap, done, LetsThrough, Refuses}
use Rattle.format.specs.Answer.{pass-answered, exit-answered}
use Rattle.exact.specs.Meaning.{or_else}
use Rattle.exact.specs.Refusals.{met}
use Rattle.byte_order.specs.Meaning.{low_bits, little_of, big_of, buffer_fault, length_fault, buffer_of}
use Rattle.byte_order.specs.Promise.{Stored}
use Rattle.byte_order.specs.Theorems.{bytes-length}

-- behind the refusals, in the format that they let through
module _ {A : Type 0} (c : Kind A) where
  pub opened : {n w f v g x y : ℕ} {r : Answered A} → LetsThrough n w f v g → x ≡ y → r ≡ answered c (done (wrap c.sign v (pos x)) false)
      → r ≡ answered c (unless n (done (wrap c.sign w (pos y)) false))
  opened {n} {w} {y = y} o e p =
      pass-answered c n (done (wrap c.sign w (pos y)) false) o.free
      (p ∙ ap₂ (λ (v x : ℕ). answered c (done (wrap c.sign v (pos x)) false)) o.width_is e)

-- where nothing is refused, the bytes have their places in the buffer and in a word, and those that are read are a word's
pub room_of : (w f n : ℕ) {s : ℕ} → or_else (fault_of w f) (buffer_fault w n) ≡ 0 → s ≡ w / 8 → (s ≤ n) × (s ≤ 8)
unfolding buffer_fault
room_of w f n {s} z q = let m = met w f (buffer_fault w n) refl z in (go (leb (w / 8) n) refl m.rest, omega (arith, m.word, q))
  where
    go : (t : Bool) → leb (w / 8) n ≡ t → ◌≡◌ {A = ℕ} (cond t 0 5) 0 → s ≤ n
    go true e h = omega (arith, leb-true (w / 8) n e)
    go false e h = absurd (omega arith)

pub length_of : (w f n : ℕ) → or_else (fault_of w f) (length_fault w n) ≡ 0 → (n ≡ w / 8) × (n ≤ 8)
unfolding length_fault
length_of w f n z = let m = met w f (length_fault w n) refl z in go (eqb n (w / 8)) refl m.word m.rest
  where
    go : (t : Bool) → eqb n (w / 8) ≡ t → w ≤ 64 → ◌≡◌ {A = ℕ} (cond t 0 5) 0 → (n ≡ w / 8) × (n ≤ 8)
    go true e l h = let same = eqb-true n (w / 8) e in (same, omega (arith, same))
    go false e l h = absurd (omega arith)

pub little-length : (w : ℕ) (a : ℤ) → length (little_of w a) ≡ w / 8
little-length w a = bytes-length (w / 8) (low_bits w a)

pub big-length : (w : ℕ) (a : ℤ) → length (big_of w a) ≡ w / 8
big-length w a = length-reverse (little_of w a) ∙ little-length w a

-- the answer and the buffer after: written, or as it was
module _ {w f : ℕ} {out bytes : List ℕ} where
  pub stored-done : {after b : List ℕ} {r : Answer ℕ} → or_else (fault_of w f) (buffer_fault w (length out)) ≡ 0 → b ≡ bytes → length bytes ≡ w / 8
      → r ≡ record { raw = length b; flag = false } → after ≡ b ++ drop (length b) out → Stored bytes w f out after (Ok r)
  unfolding buffer_of answered
  stored-done z e l q p =
      record {
        answer = pass-answered unsigned_kind _ (done (pos (w / 8)) false) z (ap Ok (q ∙ ap (λ (k : ℕ). record { raw = k; flag = false }) (ap length e ∙ l)));
        buffer = rw (eq-eqb _ 0 z) (p ∙ ap (λ (t : List ℕ). t ++ drop (length t) out) e ∙ ap (λ (k : ℕ). bytes ++ drop k out) l);
      }

  pub stored_exit : {e : Refusal} (r : Answered ℕ) → IsErrAnd r (λ d. d ≡ e) → Refuses (or_else (fault_of w f) (buffer_fault w (length out))) e
      → Stored bytes w f out out r
  unfolding buffer_of
  stored_exit r h q =
      record {
        answer = exit-answered unsigned_kind _ _ r h q;
        buffer = rw (ne_eqb _ 0 q.fault) refl;
      }
