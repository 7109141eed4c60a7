-- The three ways out of the writer: the format's refusal, 5, and the text in the buffer; and a raw's text by its sign and its magnitude.
-- Assumes nothing.
use Rattle.std.specs.Prelude.{◌≡◌, refl, Bool, false, Ok, Err, List, ◌++◌, ℕ, ◌≤◌, ◌<◌, length, drop, ℤ, pos, negsuc, nat_abs}
use Rattle.std.specs.Result.{IsErrAnd}
use Rattle.std.specs.Int.Signed.{lt_z}
use Rattle.std.proofs.Common.{ap, ap₂, ◌∙◌, arith}
use borrow.Author.Tests.{le-leb, lt-leb}
use Rattle.laws.specs.Diff.{orders}
use Rattle.laws.specs.Tests.{lt-lt_z, le-lt_z}
use Rattle.format.specs.declared.refusal.Refusal.{Refusal}
use Rattle.format.specs.declared.refusal.Refusal.TheVariants.{WrongLength}
use Rattle.format.specs.Meaning.{named, unsigned_kind, Answered, answered, refused, fault_of, unless, Refuses}
use Rattle.format.specs.Answer.{exit-answered}
use Rattle.format.specs.Settle.{unless-fault, unless-none}
use Rattle.decimal.specs.Meaning.{text_of, raw_text, put, buffer_after, write_of, left_of}

-- a raw's text is that of its sign and its magnitude
pub raw-text : (raw : ℤ) (f : ℕ) {b : Bool} {m : ℕ} → b ≡ lt_z raw (pos 0) → m ≡ nat_abs raw → text_of b m f ≡ raw_text raw f
unfolding raw_text
raw-text (pos n) f e q = ap₂ (λ (b : Bool) (m : ℕ). text_of b m f) (e ∙ le-lt_z {a = pos n} {b = pos 0} (omega orders)) q
raw-text (negsuc n) f e q = ap₂ (λ (b : Bool) (m : ℕ). text_of b m f) (e ∙ lt-lt_z {a = negsuc n} {b = pos 0} (omega orders)) q

module _ (raw : ℤ) (w f : ℕ) (out : List ℕ) where
  pub refuses : {e : Refusal} (r : Answered ℕ) → IsErrAnd r (λ d. d ≡ e) → Refuses (fault_of w f) e
      → (r ≡ answered unsigned_kind (write_of raw w f out)) × (out ≡ left_of raw w f out)
  unfolding write_of left_of buffer_after
  refuses r h q =
      let o : unless (fault_of w f) (put (raw_text raw f) out) ≡ refused (fault_of w f) = unless-fault (fault_of w f) (put (raw_text raw f) out) q.fault in
      (exit-answered unsigned_kind (fault_of w f) (put (raw_text raw f) out) r h q, rw o refl)

  module _ (z : fault_of w f ≡ 0) {text : List ℕ} (e : text ≡ raw_text raw f) where
    pub short : length out < length text → (Err WrongLength ≡ answered unsigned_kind (write_of raw w f out)) × (out ≡ left_of raw w f out)
    unfolding write_of left_of put buffer_after answered named
    short h =
        let o : unless (fault_of w f) (put (raw_text raw f) out) ≡ put (raw_text raw f) out = unless-none (fault_of w f) (put (raw_text raw f) out) z in
        rw (o, lt-leb (length (raw_text raw f)) (length out) (omega (arith, ap length e))) (refl, refl)

    pub copied : {left : List ℕ} → length text ≤ length out → left ≡ text
        → (Ok (record { raw = length text; flag = false }) ≡ answered unsigned_kind (write_of raw w f out)) × (left ++ drop (length text) out ≡ left_of raw w f out)
    unfolding write_of left_of put buffer_after answered
    copied h c =
        let o : unless (fault_of w f) (put (raw_text raw f) out) ≡ put (raw_text raw f) out = unless-none (fault_of w f) (put (raw_text raw f) out) z in
        rw (o, le-leb (length (raw_text raw f)) (length out) (omega (arith, ap length e)))
        (ap (λ (s : List ℕ). Ok (record { raw = length s; flag = false })) e, ap₂ (λ (s r : List ℕ). s ++ drop (length r) out) (c ∙ e) e)
