-- The exports that write into lent buffers: two outcomes that meet what one ensures have the same struct and buffers.
-- A buffer is `out` at entry, and at exit `out'` in the one outcome and `out''` in the other. Assumes nothing.
use Rattle.std.specs.Prelude.{◌≡◌, List, ℕ, ℤ}
use Rattle.std.proofs.Common.{ap}
use Rattle.format.specs.Meaning.{signed_kind, unsigned_kind}
use Rattle.decimal.specs.Promise.{Write, write-unique}
use Rattle.byte_order.specs.Promise.{Stored, stored-unique}
use Rattle.filter.specs.Meaning.{history, state_of}
use Rattle.filter.specs.Promise.{Runs, run-unique}
use Rattle.headroom.specs.Promise.{Heads, headroom-unique}
use Rattle.fitting.specs.Promise.{Reads, read-unique}
use Rattle.capi.specs.declared.answer.CUnsigned.{CUnsigned}
use Rattle.capi.specs.declared.c_fitting.CFile.{CFile}
use Rattle.capi.specs.Promise.{Unsigned, File, same-copied, lent-unique}

module _ (width frac : ℕ) (out : List ℕ) {out' out'' : List ℕ} {r s : CUnsigned} where
  pub tq-write-signed-unique : (raw : ℤ)
      → Unsigned (λ a. Write signed_kind raw width frac out a out') r
      → Unsigned (λ a. Write signed_kind raw width frac out a out'') s
      → (r ≡ s) × (out' ≡ out'')
  tq-write-signed-unique raw = lent-unique (write-unique signed_kind raw width frac out)

  pub tq-write-unsigned-unique : (raw : ℕ)
      → Unsigned (λ a. Write unsigned_kind raw width frac out a out') r
      → Unsigned (λ a. Write unsigned_kind raw width frac out a out'') s
      → (r ≡ s) × (out' ≡ out'')
  tq-write-unsigned-unique raw = lent-unique (write-unique unsigned_kind raw width frac out)

  -- tq_to_be_bytes_S, tq_to_le_bytes_S: the bytes of a raw, in either order
  pub tq-to-bytes-unique : (bytes : List ℕ)
      → Unsigned (Stored bytes width frac out out') r
      → Unsigned (Stored bytes width frac out out'') s
      → (r ≡ s) × (out' ≡ out'')
  tq-to-bytes-unique bytes = lent-unique (λ a b x y. stored-unique bytes width frac out)

module _ (taps state samples outputs : List ℤ) (clips : List ℕ)
    {state' state'' outputs' outputs'' : List ℤ} {clips' clips'' : List ℕ} {r s : CUnsigned} where
  pub tq-filter-unique :
      Unsigned (λ a. Runs taps (state_of state) samples outputs clips a (state_of state') outputs' clips') r
      → Unsigned (λ a. Runs taps (state_of state) samples outputs clips a (state_of state'') outputs'' clips'') s
      → (r ≡ s) × (state' ≡ state'') × (outputs' ≡ outputs'') × (clips' ≡ clips'')
  tq-filter-unique p q =
      let e = run-unique taps (state_of state) samples outputs clips _ _ _ _ _ _ _ _ p.meets q.meets in
      (same-copied p q e.0, ap history e.1.0, e.1.1.0, e.1.1.1)

pub tq-headroom-unique : (taps witness : List ℤ) {witness' witness'' : List ℤ} {r s : CUnsigned}
    → Unsigned (λ a. Heads taps witness a witness') r
    → Unsigned (λ a. Heads taps witness a witness'') s
    → (r ≡ s) × (witness' ≡ witness'')
tq-headroom-unique taps witness = lent-unique (headroom-unique taps witness)

module _ (file lines : List ℕ) (raws : List ℤ) (answers : List ℕ) (taps : List ℤ)
    {lines' lines'' answers' answers'' : List ℕ} {raws' raws'' taps' taps'' : List ℤ} {r s : CFile} where
  pub tq-fitting-unique :
      File (λ a. Reads file lines raws answers taps a lines' raws' answers' taps') r
      → File (λ a. Reads file lines raws answers taps a lines'' raws'' answers'' taps'') s
      → (r ≡ s) × (lines' ≡ lines'') × (raws' ≡ raws'') × (answers' ≡ answers'') × (taps' ≡ taps'')
  tq-fitting-unique p q =
      let e = read-unique file lines raws answers taps _ _ _ _ _ _ _ _ _ _ p.meets q.meets in
      (same-copied p q e.answer, e.lines, e.raws, e.answers, e.taps)
